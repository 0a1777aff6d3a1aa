use Rattle.transfer_functions.proofs.values.address_value.Goals as goal

pub returns-clause-counted : goal.returns-clause-counted
returns-clause-counted g c = c.in_segment.ensures.counted c.args.s.now.parts.blocks c.offset_value-offset.ensures.holds.counted

use Rattle.import_stubs.proofs.tests.value_named.Goals as goal

pub returns-then-eq : goal.returns-then-eq
returns-then-eq g c = c.anything.ensures.holds c.args.s.now.parts.blocks

pub returns-in_ok-offset-in-Some-strip_prefix : goal.returns-in_ok-offset-in-Some-strip_prefix
returns-in_ok-offset-in-Some-strip_prefix g c = c.stack_place.ensures.holds c.args.s.now.parts.blocks

pub returns-in_ok-n-in-None : goal.returns-in_ok-n-in-None
returns-in_ok-n-in-None g c = c.number.ensures.holds c.args.s.now.parts.blocks

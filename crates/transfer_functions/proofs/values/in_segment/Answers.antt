use Rattle.transfer_functions.proofs.values.in_segment.Goals as goal

pub returns-in-Fs-clause-counted : goal.returns-in-Fs-clause-counted
returns-in-Fs-clause-counted g c = λ blocks h. c.eval.ensures.counted blocks (c.segment_base-base.ensures.counted blocks) h

pub returns-in-Gs-clause-counted : goal.returns-in-Gs-clause-counted
returns-in-Gs-clause-counted g c = λ blocks h. c.eval-in-Gs.ensures.counted blocks (c.segment_base-base-in-Gs.ensures.counted blocks) h

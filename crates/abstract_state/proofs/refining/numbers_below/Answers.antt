use Rattle.std.proofs.Common.{arith}
use Rattle.std.proofs.lemmas.Grind.{common_steps}
use Rattle.std.proofs.lemmas.List.FromFn.{map-range_with_len_more}
use Rattle.abstract_state.proofs.refining.numbers_below.Goals as goal

pub loop-x-preserved : goal.loop-x-preserved
loop-x-preserved g c =
    let more = map-range_with_len_more g.D.Domain.number 0 c.loop-x.x c.loop-x.x (omega arith) in
    grind (arith, common_steps, more)

use Rattle.std.proofs.Common.{arith}
use Rattle.outside_io.proofs.Pieces.{piece_within, gained_piece}
use Rattle.outside_io.proofs.sink.write_all.Goals as goal

pub loop-done-preserved : goal.loop-done-preserved
loop-done-preserved g c =
    let before = c.loop-done.invariant in
    let wrote = c.in_ok-done.ensures in (
      piece_within _ _ _ _ _ before.0 wrote.within,
      gained_piece _ _ _ _ _ _ _ _ before.1 wrote.within wrote.gained,
      (let rising = wrote.rising in omega arith),
    )

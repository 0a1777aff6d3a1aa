use Rattle.decode_listing.proofs.Walking.{Walked}
use Rattle.decode_listing.proofs.listing.push_lines.Given as goal

abbrev pub invariant-loop-n : goal.invariant-loop-n
invariant-loop-n l = Walked l.image l.count l.address l.initial.out.items l.out.items l.at l.n

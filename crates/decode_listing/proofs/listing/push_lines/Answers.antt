-- Each turn adds the line of one more instruction, or the line of the place where none stands and ends.
use Rattle.std.proofs.Common.{◌≡◌, ℕ, subst, arith}
use Rattle.decode_listing.proofs.Walking.{Walked, walked_more, walked_whole, walked_stop}
use Rattle.decode_listing.proofs.listing.push_lines.Goals as goal

pub returns-in-None : goal.returns-in-None
returns-in-None c =
    walked_stop c.args.image.now c.args.count c.args.address c.args.out.now.items c.loop-n.out.items c.push_line.new.out.items c.loop-n.at c.loop-n.n
    (omega arith) c.loop-n.invariant (rw c.in-None.is at c.in_ok-next.ensures)

pub loop-n-preserved : goal.loop-n-preserved
loop-n-preserved c =
    walked_more c.args.image.now c.args.count c.args.address c.args.out.now.items c.loop-n.out.items c.push_line.new.out.items c.loop-n.at c.in-Some.next c.loop-n.n
    (omega arith) c.loop-n.invariant (rw c.in-Some.is at c.in_ok-next.ensures)

pub returns : goal.returns
returns c =
    let all : c.loop-n.n ≡ c.args.count = omega arith in
    let P : ℕ → Type 0 = λ n. Walked c.args.image.now c.args.count c.args.address c.args.out.now.items c.loop-n.out.items c.loop-n.at n in
    walked_whole c.args.image.now c.args.count c.args.address c.args.out.now.items c.loop-n.out.items c.loop-n.at (subst P all c.loop-n.invariant)

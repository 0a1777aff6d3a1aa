use Rattle.std.proofs.Common.{map, sym, ◌∙◌, ◌<◌, subst, ℕ}
use Rattle.memory_map.specs.Map.{AreAllowed, range_of}
use Rattle.memory_map.proofs.Access.{allowed_segment}
use Rattle.memory_map.proofs.segments.allowed_until.Goals as goal

pub returns-then-permits-clause-on : goal.returns-then-permits-clause-on
returns-then-permits-clause-on c =
    let P : ℕ → Type 0 = λ (e : ℕ). c.args.a < e in
    let found = allowed_segment c.args.list.now c.args.perm c.args.a c.loop-s.s-index c.s-item.result c.loop-s-test.true c.s-item.is (sym c.has.ensures ∙ c.if-has.true) (sym c.permits.ensures ∙ c.if-permits.true) in
    subst P (sym c.end.ensures) found.0

pub returns-then-permits-clause-found : goal.returns-then-permits-clause-found
returns-then-permits-clause-found c =
    let P : ℕ → Type 0 = λ (e : ℕ). AreAllowed (map range_of c.args.list.now) c.args.perm c.args.a e in
    let found = allowed_segment c.args.list.now c.args.perm c.args.a c.loop-s.s-index c.s-item.result c.loop-s-test.true c.s-item.is (sym c.has.ensures ∙ c.if-has.true) (sym c.permits.ensures ∙ c.if-permits.true) in
    subst P (sym c.end.ensures) found.1

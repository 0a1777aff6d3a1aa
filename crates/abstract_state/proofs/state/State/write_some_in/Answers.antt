use Rattle.std.proofs.Common.{◌≡◌, rules, pos, ◌+ℤ◌, ◌-ℤ◌, arith, subst, ℤ}
use Rattle.std.proofs.lemmas.Int.{ints}
use Rattle.partitioned_memory.specs.declared.area.Area.TheVariants.{In}
use Rattle.partitioned_memory.specs.Areas.{IsInside, interval_between, interval_to}
use Rattle.abstract_state.proofs.Keeping.{extent-inside, some-ordered}
use Rattle.abstract_state.proofs.state.State.write_some_in.Goals as goal

pub write_inside-requires-clause-inside : goal.write_inside-requires-clause-inside
write_inside-requires-clause-inside g c =
    let end = c.args.high +ℤ pos c.args.n in
    let ordered = some-ordered c.args.low c.args.high c.args.n c.requires.ordered in
    let whole = extent-inside c.args.region c.args.low end c.bounds-bounds.result c.bounds-bounds.ensures.value c.bounds-bounds.ensures.least c.bounds-bounds.ensures.greatest ordered c.requires.inside in
    let last : end ≡ ((end -ℤ pos 1) +ℤ pos 1) = omega (arith, ints) in
    let inside : IsInside (interval_to (In c.args.region) c.args.low (end -ℤ pos 1)) = subst (λ (z : ℤ). IsInside (interval_between (In c.args.region) c.args.low z)) last whole in
    search rules

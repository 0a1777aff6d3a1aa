use Rattle.std.proofs.Common.{◌≡◌, ◌%◌, pos, ◌-ℤ◌, w64, FitsSigned, arith, rules, ap, ◌∙◌}
use Rattle.std.proofs.lemmas.Int.{ints, to_z-of_z}
use Rattle.address_regions.specs.Extents.{high_of}
use Rattle.interval_values.specs.Forms.{distance}
use Rattle.interval_values.proofs.order.greatest_equal.Goals as goal

pub returns : goal.returns
returns c =
    let value = c.last_inside-last.ensures.value in
    let low = c.last_inside-last.ensures.low in
    let high = c.last_inside-last.ensures.high in
    let range = c.ranges.o in
    let fits : FitsSigned w64 c.last_inside-last.result = search rules in
    let also : FitsSigned w64 c.from.result = search rules in
    let from : c.from.result ≡ c.args.o = omega (arith, ints) in
    let rest = simp to_z-of_z at c.remainder_between.ensures in
    let is : pos (distance c.from.result c.last_inside-last.result % 4) ≡ pos (distance c.args.o (high_of c.args.region -ℤ pos 4) % 4) = ap (λ u. pos (distance u c.last_inside-last.result % 4)) from ∙ ap (λ u. pos (distance c.args.o u % 4)) value in
    let remainder : c.remainder_between.result ≡ pos (distance c.args.o (high_of c.args.region -ℤ pos 4) % 4) = rest ∙ is in
    omega (arith, ints)

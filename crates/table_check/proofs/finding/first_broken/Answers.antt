-- The first that fails comes after none that does.
use Rattle.std.proofs.Common.{◌≡◌, ◌+◌, ◌<◌, length, take, add-one, Some, sym, ap, ◌∙◌, refl, arith}
use Rattle.std.specs.Prelude.{filter_map, slice_get}
use Rattle.std.specs.List.{enumerate_from}
use Rattle.std.proofs.lemmas.Option.{slice_get_read}
use Rattle.table_check.specs.declared.finding.Finding.TheVariants.{Broken, Leads}
use Rattle.table_check.specs.Checking.{broken_in}
use Rattle.table_check.proofs.Answering.{first-here, none-more}
use Rattle.table_check.proofs.finding.first_broken.Goals as goal

pub returns-in-Broken : goal.returns-in-Broken
returns-in-Broken c =
    let found = c.args.found.now in
    let n = c.loop-number.number in
    let kind = c.in-Broken.kind in
    let within : n < length found = omega (arith, c.loop-number-test.true) in
    let at : slice_get found n ≡ Some (Broken kind) = slice_get_read found (length found) n c.index-found-number.result refl within c.index-found-number.is ∙ ap Some c.in-Broken.is in
    let here = first-here 0 found n (Broken kind) at c.loop-number.invariant in
    let number : n ≡ 0 + n = omega arith in
    ap (λ z. Some (z, kind)) number ∙ sym (ap (λ l. slice_get l 0) here.1)

pub loop-number-preserved : goal.loop-number-preserved
loop-number-preserved c =
    let found = c.args.found.now in
    let n = c.loop-number.number in
    let es = c.in_default.field-0 in
    let within : n < length found = omega (arith, c.loop-number-test.true) in
    let at : slice_get found n ≡ Some (Leads es) = slice_get_read found (length found) n c.index-found-number.result refl within c.index-found-number.is ∙ ap Some c.in_default.is in
    ap (λ k. filter_map broken_in (enumerate_from 0 (take k found))) (add-one n) ∙ none-more 0 found n es at c.loop-number.invariant

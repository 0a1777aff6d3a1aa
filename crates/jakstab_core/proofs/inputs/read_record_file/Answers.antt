-- A file of the limit has few fills and steps.
use Rattle.std.proofs.Common.{ℕ, List, ◌≤◌, length, subst, sym}
use Rattle.jakstab_core.proofs.Starting.{record_fills_few, record_steps_few}
use Rattle.jakstab_core.proofs.inputs.read_record_file.Goals as goal

pub returns-in-Ok-clause-fill : goal.returns-in-Ok-clause-fill
returns-in-Ok-clause-fill g c =
    let P : List ℕ → Type 0 = λ text. length text ≤ 67108864 in
    record_fills_few c.deref.result.now c.in-Ok.record c.in-Ok.ensures.text (subst P (sym c.deref.ensures.value) c.in_ok-text.ensures.read.0)

pub returns-in-Ok-clause-steps : goal.returns-in-Ok-clause-steps
returns-in-Ok-clause-steps g c =
    let P : List ℕ → Type 0 = λ text. length text ≤ 67108864 in
    record_steps_few c.deref.result.now c.in-Ok.record c.in-Ok.ensures.text (subst P (sym c.deref.ensures.value) c.in_ok-text.ensures.read.0)

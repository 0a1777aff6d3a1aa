-- A file of the limit has few fills.
use Rattle.std.proofs.Common.{ℕ, List, ◌≤◌, length, subst, sym}
use Rattle.jakstab_core.proofs.Starting.{start_few}
use Rattle.jakstab_core.proofs.inputs.read_start_file.Goals as goal

pub returns-in-Ok-clause-few : goal.returns-in-Ok-clause-few
returns-in-Ok-clause-few g c =
    let P : List ℕ → Type 0 = λ text. length text ≤ 67108864 in
    start_few c.deref.result.now c.in-Ok.start c.in-Ok.ensures.text (subst P (sym c.deref.ensures.value) c.in_ok-text.ensures.read.0)

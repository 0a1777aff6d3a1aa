-- A fill that belongs to the last of some choices or steps.
use Rattle.std.proofs.Common.{◌≡◌, List, [], ◌∷◌, ◌++◌, refl, ap}
use Rattle.memory_map.specs.declared.choice.Choice.{Choice}
use Rattle.memory_map.specs.declared.choice.Fill.{Fill}
use Rattle.run_replayer.specs.declared.record.RunStep.{RunStep}
use Rattle.run_replayer.specs.declared.record_reader.RecordReader.{RecordReader}
use Rattle.run_replayer.specs.declared.start_reader.StartReader.{StartReader}
use Rattle.run_replayer.specs.Grammar.{with_fill, with_last, with_record_fill, with_start_fill, with_step_fill}

with_last-append : {X : Type 0} (change : X → X) (xs : List X) (x : X) → with_last change (xs ++ x ∷ []) ≡ xs ++ change x ∷ []
with_last-append change [] x = refl
with_last-append change (y ∷ []) x = refl
with_last-append change (y ∷ z ∷ xs) x = ap (λ l. y ∷ l) (with_last-append change (z ∷ xs) x)

pub filled_step : (r : RecordReader) (f : Fill) (steps : List RunStep) (x : RunStep) → with_record_fill f (steps ++ x ∷ []) r ≡ record r { steps = steps ++ with_step_fill f x ∷ [] }
filled_step r f [] x = refl
filled_step r f (y ∷ steps) x = ap (λ (ss : List RunStep). record r { steps = ss }) (with_last-append (with_step_fill f) (y ∷ steps) x)

pub filled_choice : (s : StartReader) (f : Fill) (choices : List Choice) (x : Choice) → with_start_fill f (choices ++ x ∷ []) s ≡ record s { choices = choices ++ with_fill f x ∷ [] }
filled_choice s f [] x = refl
filled_choice s f (y ∷ choices) x = ap (λ (cs : List Choice). record s { choices = cs }) (with_last-append (with_fill f) (y ∷ choices) x)

-- What fields make that are read one after another.
use Rattle.std.proofs.Common.{◌≡◌, ℕ, List, [], ◌∷◌, Option, None, refl, ◌∙◌, ap}
use Rattle.std.specs.Prelude.{option_and_then}
use Rattle.text_fields.specs.Fields.{Lacks, Reads, then_field}

pub then_reads : {A B : Type 0} (form : List ℕ → Option A) (old new : List (List ℕ)) (a : A) (go : A → List (List ℕ) → Option B)
    → Reads form old a new → then_field form old go ≡ go a new
unfolding then_field
then_reads form old new a go h = ap (λ fs. then_field form fs go) h.begins ∙ ap (option_and_then (λ b. go b new)) h.gives

pub then_lacks : {A B : Type 0} (form : List ℕ → Option A) (old : List (List ℕ)) (go : A → List (List ℕ) → Option B) → Lacks form old → then_field form old go ≡ None
unfolding then_field
then_lacks form [] go h = refl
then_lacks form (field ∷ others) go h = ap (option_and_then (λ b. go b others)) h

-- Lists that ascend, and one more element behind the last.
use Rattle.std.proofs.Common.{◌≡◌, ℕ, zero, suc, ◌+◌, ◌-◌, ◌<◌, ◌≤◌, Bool, true, false, List, [], ◌∷◌, ◌++◌, length, get_or, Option, None, Some, refl, sym, ◌∙◌, ap, arith}
use Rattle.std.specs.Prelude.{slice_get, ◌&&◌}
use Rattle.std.specs.Option.{option_map_or}
use Rattle.std.specs.List.{list_all}
use Rattle.std.proofs.lemmas.List.{length-append}
use Rattle.std.proofs.lemmas.List.Folds.{list_all-append}
use Rattle.std.proofs.lemmas.Option.{slice_get-get_or}
use Rattle.std.proofs.Math.Seq.{get_or-append_seam}
use Rattle.memory_map.specs.Ascending.{ascend}
use Rattle.text_fields.specs.Lines.{last_of}
use Rattle.text_fields.proofs.LastOnes.{last_of_later}
use Rattle.std.proofs.lemmas.Bool.{and_parts, and_from}

pub list_all-push : {X : Type 0} (p : X → Bool) (xs : List X) (x : X) → list_all p xs ≡ true → p x ≡ true → list_all p (xs ++ x ∷ []) ≡ true
list_all-push p xs x all here = list_all-append p xs (x ∷ []) ∙ and_from (list_all p xs) (list_all p (x ∷ [])) all (and_from (p x) true here refl)

-- an element above the last one goes on with them
pub ascend_more : {X : Type 0} (above : X → X → Bool) (xs : List X) (x : X) → ascend above xs ≡ true → option_map_or (λ l. above l x) (last_of xs) true ≡ true → ascend above (xs ++ x ∷ []) ≡ true
ascend_more above [] x so here = refl
ascend_more above (y ∷ []) x so here = and_from (above y x) true here refl
ascend_more above (y ∷ z ∷ zs) x so here =
    let parts : (above y z ≡ true) × (ascend above (z ∷ zs) ≡ true) = and_parts (above y z) (ascend above (z ∷ zs)) so in
    and_from (above y z) (ascend above (z ∷ (zs ++ x ∷ []))) parts.0
    (ascend_more above (z ∷ zs) x parts.1 (ap (λ o. option_map_or (λ l. above l x) o true) (sym (last_of_later y z zs)) ∙ here))

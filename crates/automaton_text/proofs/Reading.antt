-- What stands in the lines of an automaton's text, and where locations are found.
use Rattle.std.proofs.Common.{◌≡◌, ℕ, zero, suc, ◌<◌, ◌≤◌, ◌+◌, ◌-◌, ◌==◌, Bool, true, false, List, [], ◌∷◌, ◌++◌, length, get_or, cond, Option, None, Some, refl, sym, ◌∙◌, ap, arith, nat_lt}
use Rattle.std.specs.Prelude.{find, slice_get}
use Rattle.std.specs.List.{AllPairs, join_with_byte}
use Rattle.std.proofs.lemmas.List.Splits.{join_with_byte-slice_split, length-slice_split}
use Rattle.std.proofs.lemmas.Bool.Decides.{nat_tests}
use Rattle.text_fields.specs.Lines.{fields}
use Rattle.automaton_text.specs.declared.automaton.Location.{Location}
use Rattle.automaton_text.specs.Reading.{AreAscending, location_at, text_fields}

-- the fields that are left are all that stands there
joined : (fs : List (List ℕ)) → 0 < length fs → text_fields fs ≡ Some (join_with_byte 32 fs)
joined [] some = let never : ⊥ = omega arith in absurd never
joined (f ∷ fs) some = refl

some_field : (text : List ℕ) → 0 < length (fields text)
unfolding fields
some_field text = omega (arith, length-slice_split (λ b. b == 32) text)

back : (text : List ℕ) → join_with_byte 32 (fields text) ≡ text
unfolding fields
back text = join_with_byte-slice_split 32 text

pub text_back : (text : List ℕ) → text_fields (fields text) ≡ Some text
text_back text = joined (fields text) (some_field text) ∙ ap Some (back text)

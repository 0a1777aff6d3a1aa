-- Bytes that are a spelling as a whole decode as a whole.
use Rattle.std.proofs.Common.{◌≡◌, ℕ, ◌≢◌, inl, inr, ◌<◌, ◌≤◌, ◌&&◌, Bool, true, false, Option, None, nat_le, List, [], ◌∷◌, length, take, Some, refl, sym, ◌∙◌, ap, arith}
use Rattle.x86_syntax.specs.declared.instr.Instr.{Instr}
use Rattle.x86_syntax.specs.Spelling.{spelled}
use Rattle.x86_syntax.specs.Decodes.{decoded, Decodes}
use Rattle.flow_log.proofs.Members.{lt_or_le}
use Rattle.std.specs.Str.{bytes_eq}
use Rattle.std.proofs.lemmas.Bool.Decides.{nat_tests}
use Rattle.automaton_text.specs.Reading.{is_code}
use Rattle.x86_syntax.specs.Text.{instr_text}
use Rattle.x86_decoder.specs.Refusals.{IsSpelling}
use Rattle.automaton_text.specs.Text.{code_text, text_at}
use Rattle.x86_syntax.proofs.DecodesLemmas.{decodes_computes}
use Rattle.std.proofs.lemmas.Option.{same_Some}

take_whole : (xs : List ℕ) → take (length xs) xs ≡ xs
take_whole [] = refl
take_whole (x ∷ xs) = ap (λ ys. x ∷ ys) (take_whole xs)

pub decoded_whole : (bytes : List ℕ) (i : Instr) → length bytes ≤ 15 → spelled bytes ≡ Some i → decoded bytes ≡ Some (i, length bytes)
decoded_whole bytes i short names =
    decodes_computes bytes i (length bytes) (record { within = omega arith; short = short; names = ap spelled (take_whole bytes) ∙ names })

-- the text of bytes is that of the instruction that stands at their front, where they are a spelling
pub code_text_of : (from : ℕ) (bytes : List ℕ) (i : Instr) (n : ℕ) → length bytes ≤ 15 → IsSpelling bytes → decoded bytes ≡ Some (i, n) → code_text from bytes ≡ instr_text from i n
unfolding code_text
code_text_of from bytes i n short (whole, names) found =
    let pair : (whole, length bytes) ≡ (i, n) = same_Some (whole, length bytes) (i, n) (sym (decoded_whole bytes whole short names) ∙ found) in
    ap (text_at from (length bytes)) names ∙ ap (λ (p : Instr × ℕ). instr_text from p.0 p.1) pair

-- bytes that are no spelling, or too many, have no text
stuck : (a b : Bool) → ((a && false) && b) ≡ false
stuck true b = refl
stuck false b = refl

long_test : (n : ℕ) → 15 < n → nat_le n 15 ≡ false
long_test n long = grind (arith, nat_tests)

short_test : (n : ℕ) → n ≤ 15 → nat_le n 15 ≡ true
short_test n short = grind (arith, nat_tests)

pub too_long : (from : ℕ) (bytes text : List ℕ) → 15 < length bytes → is_code from bytes text ≡ false
unfolding is_code
too_long from bytes text long = rw (long_test (length bytes) long) refl

pub code_is_short : (from : ℕ) (bytes text : List ℕ) → is_code from bytes text ≡ true → length bytes ≤ 15
code_is_short from bytes text is =
    elim (lt_or_le 15 (length bytes)) [ inl long ↦ (let none = too_long from bytes text long in let never : ⊥ = cc in absurd never) | inr short ↦ short ]

no_spelling : (bytes : List ℕ) (s : Option Instr) → spelled bytes ≡ s → length bytes ≤ 15 → ((i : Instr) → decoded bytes ≡ Some (i, length bytes) → ⊥) → spelled bytes ≡ None
no_spelling bytes None e short other = e
no_spelling bytes (Some i) e short other = absurd (other i (decoded_whole bytes i short e))

no_code : (from : ℕ) (bytes text : List ℕ) → spelled bytes ≡ None → is_code from bytes text ≡ false
unfolding is_code
no_code from bytes text none = rw none (stuck (nat_le (length bytes) 15) (bytes_eq (code_text from bytes) text))

pub not_decoded : (from : ℕ) (bytes text : List ℕ) → length bytes ≤ 15 → ◌≡◌ {A = Option (Instr × ℕ)} None (decoded bytes) → is_code from bytes text ≡ false
not_decoded from bytes text short none = no_code from bytes text (no_spelling bytes (spelled bytes) refl short (λ i e. let never : ⊥ = cc in never))

pub decoded_in_part : (from : ℕ) (bytes text : List ℕ) (i : Instr) (n : ℕ) → length bytes ≤ 15 → Some (i, n) ≡ decoded bytes → n ≢ length bytes → is_code from bytes text ≡ false
decoded_in_part from bytes text i n short found other =
    no_code from bytes text (no_spelling bytes (spelled bytes) refl short (λ whole e.
    let pair : (i, n) ≡ (whole, length bytes) = same_Some (i, n) (whole, length bytes) (found ∙ e) in
    other (ap (λ (p : Instr × ℕ). p.1) pair)))

-- what decodes as a whole has the text of its instruction
pub decoded_text : (from : ℕ) (bytes text : List ℕ) (i : Instr) (n : ℕ) → length bytes ≤ 15 → Decodes bytes i n → Some (i, n) ≡ decoded bytes → n ≡ length bytes → is_code from bytes text ≡ bytes_eq (instr_text from i n) text
unfolding is_code
decoded_text from bytes text i n short decodes found whole =
    let names : spelled bytes ≡ Some i = sym (ap spelled (ap (λ k. take k bytes) whole ∙ take_whole bytes)) ∙ decodes.names in
    rw (short_test (length bytes) short, names) (ap (λ own. bytes_eq own text) (code_text_of from bytes i n short (i, names) (sym found)))

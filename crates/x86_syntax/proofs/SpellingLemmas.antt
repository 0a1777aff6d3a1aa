-- What a byte at the front does to the set of spellings, and the law that no spelling goes on to another.
use Rattle.std.proofs.Common.{◌≡◌, ℕ, List, [], ◌∷◌, ◌++◌, Bool, true, false, cond, refl, Option, Some, None}
use Rattle.std.specs.Option.{option_and_then}
use Rattle.x86_syntax.specs.declared.instr.Instr.{Instr}
use Rattle.x86_syntax.specs.declared.prefixes.Prefixes.{Prefixes}
use Rattle.x86_syntax.specs.Formats.{matched}
use Rattle.x86_syntax.specs.Spelling.{spelled_with, is_prefix, with_prefix, opcodes}
use Rattle.x86_syntax.proofs.FormatLemmas.{one_form}

pub spelled_prefix : (p more : Prefixes) (b : ℕ) (s : List ℕ) → is_prefix b ≡ true → with_prefix p b ≡ Some more → spelled_with p (b ∷ s) ≡ spelled_with more s
unfolding spelled_with
spelled_prefix p more b s is joined = rw (is, joined) refl

pub spelled_refused : (p : Prefixes) (b : ℕ) (s : List ℕ) → is_prefix b ≡ true → with_prefix p b ≡ None → spelled_with p (b ∷ s) ≡ None
unfolding spelled_with
spelled_refused p b s is refused = rw (is, refused) refl

pub spelled_opcode : (p : Prefixes) (b : ℕ) (s : List ℕ) → is_prefix b ≡ false → spelled_with p (b ∷ s) ≡ matched (opcodes p b) s
unfolding spelled_with
spelled_opcode p b s isnt = rw isnt refl

-- no spelling goes on to another
pub prefix_law : (p : Prefixes) (s x : List ℕ) (a b : Instr) → spelled_with p s ≡ Some a → spelled_with p (s ++ x) ≡ Some b → x ≡ []
unfolding spelled_with
prefix_law p [] x a b here there = cc
prefix_law p (c ∷ s) x a b here there =
    let P : Bool → Type 0 = λ t.
    cond t (option_and_then (λ q. spelled_with q s) (with_prefix p c)) (matched (opcodes p c) s) ≡ Some a
    → cond t (option_and_then (λ q. spelled_with q (s ++ x)) (with_prefix p c)) (matched (opcodes p c) (s ++ x)) ≡ Some b → x ≡ [] in
    let Q : Option Prefixes → Type 0 = λ o.
    option_and_then (λ q. spelled_with q s) o ≡ Some a → option_and_then (λ q. spelled_with q (s ++ x)) o ≡ Some b → x ≡ [] in
    (elim (is_prefix c) as P [
      | true ↦ (elim (with_prefix p c) as Q [ None ↦ λ h t. cc | (Some q) ↦ λ h t. prefix_law q s x a b h t ])
      | false ↦ λ h t. one_form (opcodes p c) s x a b h t
    ]) here there

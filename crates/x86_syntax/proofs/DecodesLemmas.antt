-- Decodes and decoded are one: at most one instruction stands at the front, and the fronts tried find it.
use Rattle.std.proofs.Common.{◌≡◌, ℕ, suc, zero, ◌+◌, ◌≤◌, ◌<◌, List, [], ◌∷◌, ◌++◌, inl, inr, Bool, true, false, length, take, drop, refl, sym, ◌∙◌, ap, Option, Some, None, arith, cond}
use Rattle.std.proofs.lemmas.Bool.{leb-true, le-leb, cases_lt}
use Rattle.std.proofs.lemmas.List.{length-drop, length-take-le}
use Rattle.std.proofs.lemmas.Option.{some_pair_parts}
use Rattle.std.specs.Prelude.{nat_le}
use Rattle.x86_syntax.specs.declared.instr.Instr.{Instr}
use Rattle.x86_syntax.specs.Spelling.{spelled, spelled_with, no_prefixes}
use Rattle.x86_syntax.specs.Decodes.{Decodes, HasSpelling, spelled_front, or_else, decoded_from, decoded}
use Rattle.x86_syntax.proofs.SpellingLemmas.{prefix_law}

pub take-split : (k m : ℕ) (xs : List ℕ) → k ≤ m → take m xs ≡ take k xs ++ drop k (take m xs)
take-split zero m xs le = refl
take-split (suc k) zero xs le = absurd (omega arith)
take-split (suc k) (suc m) [] le = refl
take-split (suc k) (suc m) (x ∷ xs) le = ap (λ ys. x ∷ ys) (take-split k m xs (omega arith))

pub front_decodes : (n : ℕ) (bytes : List ℕ) (i : Instr) → n ≤ 15 → spelled_front n bytes ≡ Some i → Decodes bytes i n
unfolding spelled_front
front_decodes n bytes i short front =
    let P : Bool → Type 0 = λ b. nat_le n (length bytes) ≡ b → cond b (spelled (take n bytes)) None ≡ Some i → Decodes bytes i n in
    (elim (nat_le n (length bytes)) as P [ true ↦ λ le names. record { within = leb-true n (length bytes) le; short = short; names = names } | false ↦ λ le names. cc ]) refl front

pub decodes_front : (n : ℕ) (bytes : List ℕ) (i : Instr) → Decodes bytes i n → spelled_front n bytes ≡ Some i
unfolding spelled_front
decodes_front n bytes i d = rw (le-leb n (length bytes) d.within) d.names

-- no shorter front is a spelling
shorter_none : (k n : ℕ) (bytes : List ℕ) (i : Instr) → Decodes bytes i n → k < n → spelled_front k bytes ≡ None
shorter_none k n bytes i d lt =
    let P : Option Instr → Type 0 = λ o. spelled_front k bytes ≡ o → o ≡ None in
    (elim (spelled_front k bytes) as P [
      | None ↦ λ e. refl
      | (Some j) ↦ λ e.
          let c : Decodes bytes j k = front_decodes k bytes j (omega (arith, d.short)) e in
          let whole : spelled (take k bytes ++ drop k (take n bytes)) ≡ Some i = rw (sym (take-split k n bytes (omega arith))) d.names in
          let none : drop k (take n bytes) ≡ [] = prefix_law no_prefixes (take k bytes) (drop k (take n bytes)) j i c.names whole in
          absurd (omega (arith, ap length none, length-drop k (take n bytes), length-take-le n bytes d.within))
    ]) refl

finds : (tries n : ℕ) (bytes : List ℕ) (i : Instr) (m : ℕ) → n + tries ≤ 16 → decoded_from tries n bytes ≡ Some (i, m) → Decodes bytes i m
unfolding decoded_from
finds zero n bytes i m bound found = cc
finds (suc tries) n bytes i m bound found =
    let P : Option Instr → Type 0 = λ o. spelled_front n bytes ≡ o → or_else o n (decoded_from tries (n + 1) bytes) ≡ Some (i, m) → Decodes bytes i m in
    (elim (spelled_front n bytes) as P [
      | None ↦ λ e f. finds tries (n + 1) bytes i m (omega arith) f
      | (Some j) ↦ λ e f.
          let same : (j ≡ i) × (n ≡ m) = some_pair_parts j i n m f in
          let there : Decodes bytes j n = front_decodes n bytes j (omega arith) e in
          rw (sym same.0, sym same.1) there
    ]) refl found

computes : (tries n : ℕ) (bytes : List ℕ) (i : Instr) (m : ℕ) → Decodes bytes i m → n ≤ m → m < n + tries → decoded_from tries n bytes ≡ Some (i, m)
unfolding decoded_from
computes zero n bytes i m d low high = absurd (omega arith)
computes (suc tries) n bytes i m d low high =
    elim (cases_lt n m) [
      | (inl lt) ↦ rw (shorter_none n m bytes i d lt) (computes tries (n + 1) bytes i m d (omega arith) (omega arith))
      | (inr ge) ↦ let same : n ≡ m = omega arith in rw same (rw (decodes_front m bytes i d) refl)
    ]

pub decodes_positive : (bytes : List ℕ) (i : Instr) (n : ℕ) → Decodes bytes i n → 1 ≤ n
unfolding spelled_with
decodes_positive bytes i zero d = cc (d.names)
decodes_positive bytes i (suc n) d = omega arith

-- the first spelling that the tries find is the one
pub decoded_finds : (bytes : List ℕ) (i : Instr) (n : ℕ) → decoded bytes ≡ Some (i, n) → Decodes bytes i n
unfolding decoded
decoded_finds bytes i n found = finds 15 1 bytes i n (omega arith) found

pub decodes_computes : (bytes : List ℕ) (i : Instr) (n : ℕ) → Decodes bytes i n → decoded bytes ≡ Some (i, n)
unfolding decoded
decodes_computes bytes i n d = computes 15 1 bytes i n d (decodes_positive bytes i n d) (omega (arith, d.short))

pub no_decode : (bytes : List ℕ) (i : Instr) (n : ℕ) → decoded bytes ≡ None → Decodes bytes i n → ⊥
no_decode bytes i n none d = let found : decoded bytes ≡ Some (i, n) = decodes_computes bytes i n d in cc

-- nothing stands at the front where no front is a spelling
pub none_decoded : (bytes : List ℕ) → ((i : Instr) (n : ℕ) → Decodes bytes i n → ⊥) → decoded bytes ≡ None
none_decoded bytes none =
    let P : Option (Instr × ℕ) → Type 0 = λ o. decoded bytes ≡ o → o ≡ None in
    (elim (decoded bytes) as P [ None ↦ λ e. refl | (Some p) ↦ λ e. absurd (none p.0 p.1 (decoded_finds bytes p.0 p.1 e)) ]) refl

-- at most one instruction stands at the front
pub decodes_once : (bytes : List ℕ) (i j : Instr) (n m : ℕ) → Decodes bytes i n → Decodes bytes j m → (i ≡ j) × (n ≡ m)
decodes_once bytes i j n m d c =
    let one : decoded bytes ≡ Some (i, n) = decodes_computes bytes i n d in
    let other : decoded bytes ≡ Some (j, m) = decodes_computes bytes j m c in
    let same : ◌≡◌ {A = Option (Instr × ℕ)} (Some (i, n)) (Some (j, m)) = sym one ∙ other in
    some_pair_parts i j n m same

pub decodes_spelling : (bytes : List ℕ) (i : Instr) (n : ℕ) → Decodes bytes i n → HasSpelling i n
decodes_spelling bytes i n d = record { bytes = take n bytes; size = length-take-le n bytes d.within; names = d.names }

-- Where a look-up has the bytes of an instruction, it fetches that instruction.
use Rattle.std.proofs.Common.{◌≡◌, ℕ, zero, suc, ◌+◌, ◌<◌, ◌≤◌, List, [], ◌∷◌, length, take, Option, Some, refl, sym, ◌∙◌, ap, subst, arith}
use Rattle.std.specs.Prelude.{slice_get}
use Rattle.memory_map.specs.Range.{run_of, cons_or_end}
use Rattle.x86_syntax.specs.declared.instr.Instr.{Instr}
use Rattle.x86_syntax.specs.Spelling.{spelled}
use Rattle.x86_syntax.specs.Decodes.{Decodes}
use Rattle.x86_syntax.specs.Decodes.{decoded}
use Rattle.x86_syntax.proofs.DecodesLemmas.{decodes_computes, decoded_finds}

-- the first n bytes are the same, and are there
pub record AgreeFirst (n : ℕ) (xs ys : List ℕ) : Type 0 where
  pub same : take n xs ≡ take n ys
  pub within : n ≤ length xs

-- a look-up has the first n of some bytes from an address on
pub record HasFirst (look : ℕ → Option ℕ) (n a : ℕ) (bytes : List ℕ) : Type 0 where
  pub byte : (i : ℕ) → i < n → look (a + i) ≡ slice_get bytes i

first_byte : (look : ℕ → Option ℕ) (n a b : ℕ) (bytes : List ℕ) → HasFirst look (suc n) a (b ∷ bytes) → look a ≡ Some b
first_byte look n a b bytes has = (let P : ℕ → Type 0 = λ k. look k ≡ Some b in let e : a + 0 ≡ a = omega arith in subst P e (has.byte 0 (omega arith)))

later_bytes : (look : ℕ → Option ℕ) (n a b : ℕ) (bytes : List ℕ) → HasFirst look (suc n) a (b ∷ bytes) → HasFirst look n (a + 1) bytes
later_bytes look n a b bytes has = record {
  byte = λ i less. (let P : ℕ → Type 0 = λ k. look k ≡ slice_get bytes i in let e : a + suc i ≡ (a + 1) + i = omega arith in subst P e (has.byte (suc i) (omega arith)));
}

-- then they are what it gives
pub run_agrees : (look : ℕ → Option ℕ) (count n a : ℕ) (bytes : List ℕ) → n ≤ count → n ≤ length bytes → HasFirst look n a bytes → AgreeFirst n (run_of look count a) bytes
unfolding run_of
run_agrees look count zero a bytes few within has = record { same = refl; within = omega arith }
run_agrees look zero (suc n) a bytes few within has = absurd (omega arith)
run_agrees look (suc count) (suc n) a [] few within has = absurd (omega arith)
run_agrees look (suc count) (suc n) a (b ∷ bytes) few within has =
    let rest : AgreeFirst n (run_of look count (a + 1)) bytes = run_agrees look count n (a + 1) bytes (omega arith) (omega arith) (later_bytes look n a b bytes has) in
    let P : Option ℕ → Type 0 = λ o. AgreeFirst (suc n) (cons_or_end o (run_of look count (a + 1))) (b ∷ bytes) in
    subst P (sym (first_byte look n a b bytes has)) (record { same = ap (λ bs. b ∷ bs) rest.same; within = (let h : n ≤ length (run_of look count (a + 1)) = rest.within in omega arith) })

-- the same instruction stands at the front
pub decoded_agrees : (xs ys : List ℕ) (i : Instr) (n : ℕ) → decoded ys ≡ Some (i, n) → (n ≤ 15 → n ≤ length ys → AgreeFirst n xs ys) → (decoded xs ≡ Some (i, n)) × (take n xs ≡ take n ys)
decoded_agrees xs ys i n found agree =
    let there : Decodes ys i n = decoded_finds ys i n found in
    let first : AgreeFirst n xs ys = agree there.short there.within in
    (decodes_computes xs i n (record { within = first.within; short = there.short; names = ap spelled first.same ∙ there.names }), first.same)

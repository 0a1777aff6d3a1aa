-- What a call leaves of memory: bytes filled in, a block mapped, and the exit place written.
use Rattle.std.proofs.Common.{ℕ, zero, suc, ◌≡◌, ◌+◌, ◌-◌, ◌<◌, ◌≤◌, Bool, true, false, cond, List, [], ◌∷◌, ◌++◌, map, Some, refl, sym, ap, ◌∙◌, subst, arith, inl, inr, replicate}
use Rattle.std.specs.Prelude.{slice_get, is_some, filter, unwrap_or, All, AllPairs}
use Rattle.std.specs.List.{list_all, list_any}
use Rattle.std.proofs.lemmas.Bool.{and_from, and_parts, both_ways, cases_Bool, cases_eq, or_left}
use Rattle.bit_words.specs.declared.width.Width.TheVariants.{B8}
use Rattle.bit_words.specs.Width.{cut}
use Rattle.memory_map.specs.Range.{Range, Mapping, mapping_of, byte_at, has, may_write, AreApart, HasBytes, IsInUserSpace}
use Rattle.memory_map.specs.State.{MachineState, memory}
use Rattle.memory_map.proofs.Lists.{byte_at-here, byte_at-there}
use Rattle.memory_map.proofs.Mappings.{apart_mapped, is_mapped, lies_at, mapped_inside, written_mapped, written_same}
use Rattle.x86_semantics.specs.Memory.{may_write_all, next_byte, with_byte}
use Rattle.x86_semantics.proofs.Storing.{byte-other, byte-same, byte_of, put-mapping, puts-bytes, puts-mapping}
use Rattle.import_semantics.specs.StubDoes.{with_bytes}

-- ---- bytes filled in

-- nothing but bytes is changed
pub record IsFilled (m n : MachineState) : Type 0 where
  pub registers : n.registers ≡ m.registers
  pub fs : n.fs ≡ m.fs
  pub gs : n.gs ≡ m.gs
  pub stack : mapping_of n.stack ≡ mapping_of m.stack
  pub mappings : map mapping_of (memory n) ≡ map mapping_of (memory m)
  pub bytes : All HasBytes (memory m) → All HasBytes (memory n)

byte-cut : (n : ℕ) → cut B8 n < 256
byte-cut n = omega arith

pub filled-is : (filled : List (ℕ × ℕ)) (m : MachineState) → IsFilled m (with_bytes filled m)
filled-is [] m = record { registers = refl; fs = refl; gs = refl; stack = refl; mappings = refl; bytes = λ h. h }
filled-is (b ∷ bs) m =
    let next = with_byte b.0 (cut B8 b.1) m in
    let same : map mapping_of (memory next) ≡ map mapping_of (memory m) = puts-mapping b.0 (cut B8 b.1) (memory m) in
    let rest : IsFilled next (with_bytes bs next) = filled-is bs next in
    record {
      registers = rest.registers;
      fs = rest.fs;
      gs = rest.gs;
      stack = rest.stack ∙ put-mapping b.0 (cut B8 b.1) m.stack;
      mappings = rest.mappings ∙ same;
      bytes = λ h. rest.bytes (puts-bytes b.0 (cut B8 b.1) (byte-cut b.1) (memory m) h);
    }

-- a byte at an address at which none may be filled in stays
pub filled-others : (test : ℕ × ℕ → Bool) (filled : List (ℕ × ℕ)) (m : MachineState) (c : ℕ) → list_all test filled ≡ true → ((v : ℕ) → test (c, v) ≡ true → ⊥)
    → byte_at (memory (with_bytes filled m)) c ≡ byte_at (memory m) c
filled-others test [] m c e off = refl
filled-others test (b ∷ bs) m c e off =
    let parts = and_parts (test b) (list_all test bs) e in
    let next = with_byte b.0 (cut B8 b.1) m in
    let other : c ≡ b.0 → ⊥ = λ q. off b.1 (subst (λ (z : ℕ). test (z, b.1) ≡ true) (sym q) parts.0) in
    filled-others test bs next c parts.1 off ∙ byte-other b.0 (cut B8 b.1) (memory m) c other

-- where only 0 may be filled in, a 0 stays one
pub filled-zero : (test : ℕ × ℕ → Bool) (filled : List (ℕ × ℕ)) (m : MachineState) (c : ℕ) → AllPairs AreApart (memory m) → may_write (memory m) c ≡ true
    → list_all test filled ≡ true → ((v : ℕ) → test (c, v) ≡ true → v ≡ 0) → byte_of (memory m) c ≡ 0 → byte_of (memory (with_bytes filled m)) c ≡ 0
filled-zero test [] m c apart writes e zeros is = is
filled-zero test (b ∷ bs) m c apart writes e zeros is =
    let parts = and_parts (test b) (list_all test bs) e in
    let v = cut B8 b.1 in
    let next = with_byte b.0 v m in
    let same : map mapping_of (memory next) ≡ map mapping_of (memory m) = puts-mapping b.0 v (memory m) in
    let here : byte_of (memory next) c ≡ 0 =
    elim (cases_eq c b.0) [
      | inl q ↦
          let none : b.1 ≡ 0 = zeros b.1 (subst (λ (z : ℕ). test (z, b.1) ≡ true) (sym q) parts.0) in
          let put : byte_at (memory next) b.0 ≡ Some v = byte-same b.0 v (memory m) apart (subst (λ (z : ℕ). may_write (memory m) z ≡ true) q writes) in
          ap (λ z. byte_of (memory next) z) q ∙ ap (λ o. unwrap_or o 0) put ∙ ap (cut B8) none
      | inr off ↦ ap (λ o. unwrap_or o 0) (byte-other b.0 v (memory m) c off) ∙ is
    ] in
    filled-zero test bs next c (apart_mapped (memory m) (memory next) (sym same) apart) (written_same (memory next) (memory m) c same ∙ writes) parts.1 zeros here

-- ---- a block

-- one more range, at an address that is none of its own
pub more-byte : (rs : List Range) (r : Range) (c : ℕ) → has c r ≡ false → byte_at (rs ++ r ∷ []) c ≡ byte_at rs c
more-byte [] r c off = byte_at-there r [] c off
more-byte (x ∷ xs) r c off =
    elim (cases_Bool (has c x)) [
      | inl h ↦ byte_at-here x (xs ++ r ∷ []) c h ∙ sym (byte_at-here x xs c h)
      | inr h ↦ byte_at-there x (xs ++ r ∷ []) c h ∙ more-byte xs r c off ∙ sym (byte_at-there x xs c h)
    ]

-- or at one of its own that is mapped nowhere else
pub own-byte : (rs : List Range) (r : Range) (c : ℕ) → is_some (byte_at rs c) ≡ false → has c r ≡ true → byte_at (rs ++ r ∷ []) c ≡ slice_get r.bytes (c - r.low)
own-byte [] r c none own = byte_at-here r [] c own
own-byte (x ∷ xs) r c none own =
    elim (cases_Bool (has c x)) [
      | inl h ↦ absurd (both_ways (is_some (byte_at (x ∷ xs) c)) none (is_mapped (x ∷ xs) c ∙ or_left (has c x) (list_any (lies_at c) (map mapping_of xs)) h))
      | inr h ↦ byte_at-there x (xs ++ r ∷ []) c h ∙ own-byte xs r c (sym (ap is_some (byte_at-there x xs c h)) ∙ none) own
    ]

-- every byte of it is 0
pub zero-bytes : (n k : ℕ) → unwrap_or (slice_get (replicate n zero) k) zero ≡ zero
zero-bytes zero k = refl
zero-bytes (suc n) zero = refl
zero-bytes (suc n) (suc k) = zero-bytes n k

-- ---- a word

-- an access in user space goes on to the next address
pub next-on : (rs : List Range) (a : ℕ) → All IsInUserSpace rs → is_some (byte_at rs a) ≡ true → next_byte a ≡ a + 1
next-on rs a inside e = (let k = mapped_inside rs a e inside in omega (arith, k.1))

-- bytes in user space that may each be written may all be
pub writes-all : (rs : List Range) (count a : ℕ) → All IsInUserSpace rs → ((c : ℕ) → a ≤ c → c < a + count → may_write rs c ≡ true) → may_write_all rs count a ≡ true
unfolding may_write_all
writes-all rs zero a inside each = refl
writes-all rs (suc count) a inside each =
    let here : may_write rs a ≡ true = each a (omega arith) (omega arith) in
    let on : next_byte a ≡ a + 1 = next-on rs a inside (written_mapped rs a here) in
    and_from (may_write rs a) (may_write_all rs count (next_byte a)) here
    (ap (may_write_all rs count) on ∙ writes-all rs count (a + 1) inside (λ c low high. each c (omega (arith, low)) (omega (arith, high))))

-- What a load reads and what a store leaves, byte by byte. Memory lies in user space, so no access goes past the last address.
use Rattle.std.proofs.Common.{ℕ, zero, suc, ◌≡◌, ◌+◌, ◌-◌, ◌*◌, ◌/◌, ◌%◌, ◌^◌, ◌<◌, true, false, cond, List, [], ◌∷◌, map, length, get_or, Option, Some, None, refl, sym, ap, ◌∙◌, subst, arith, inl, inr}
use Rattle.std.specs.Prelude.{◌&&◌, nat_le, nat_lt, slice_get, slice_set, is_some, filter, unwrap_or, All, AllPairs}
use Rattle.std.specs.List.{list_any}
use Rattle.std.proofs.lemmas.Bool.{and_parts, and_from, and_right, cases_Bool, cond-false, cond-true, cond_both, false≢true, or_cases}
use Rattle.std.proofs.lemmas.List.{length-set, get_or-set_same, get_or-set_other}
use Rattle.std.proofs.lemmas.List.Elements.{All-head, All-map, All-set, All-tail, All-weaker}
use Rattle.std.proofs.lemmas.Option.{cond_some, slice_get-get_or}
use Rattle.std.proofs.Math.Nat.{mod-eq_of_lt}
use Rattle.bit_words.specs.declared.width.Width.{Width}
use Rattle.bit_words.specs.declared.width.Width.TheVariants.{B8, B16, B32}
use Rattle.bit_words.specs.Width.{bits_of, bytes_of}
use Rattle.memory_map.specs.Range.{Range, Mapping, mapping_of, byte_at, code_at, has, may_write, AreApart, HasBytes, IsInUserSpace}
use Rattle.memory_map.specs.State.{MachineState, memory}
use Rattle.memory_map.proofs.Lists.{byte_at-here, byte_at-none, byte_at-there}
use Rattle.memory_map.proofs.Mappings.{All-mapped, apart_mapped, apart_not_in, inside_mapped, is_in, is_written, mapped_inside, pairs_head, pairs_tail, writes_at, written_mapped, written_same}
use Rattle.x86_semantics.specs.Memory.{may_write_all, next_byte, number_at, put_byte, stored, with_byte, with_low_byte, with_number, word_at}

-- what may be executed may not be written
abbrev pub IsFixedCode : Range → Type 0
IsFixedCode r = r.execute ≡ true → r.write ≡ false

-- ---- one byte of one range

module _ (a b : ℕ) where
  pub put-mapping : (r : Range) → mapping_of (put_byte a b r) ≡ mapping_of r
  put-mapping r =
      cond_both (has a r && r.write) (record r { bytes = slice_set r.bytes (a - r.low) b }) r (λ s. mapping_of s ≡ mapping_of r)
      (λ e. ap (λ (n : ℕ). record { low = r.low; size = n; write = r.write; execute = r.execute }) (length-set r.bytes (a - r.low) b)) (λ e. refl)

  pub puts-mapping : (rs : List Range) → map mapping_of (map (put_byte a b) rs) ≡ map mapping_of rs
  puts-mapping [] = refl
  puts-mapping (r ∷ rs) = ap (λ k. k ∷ map mapping_of (map (put_byte a b) rs)) (put-mapping r) ∙ ap (λ ks. mapping_of r ∷ ks) (puts-mapping rs)

  put-bytes : b < 256 → (r : Range) → HasBytes r → HasBytes (put_byte a b r)
  put-bytes less r h =
      cond_both (has a r && r.write) (record r { bytes = slice_set r.bytes (a - r.low) b }) r HasBytes
      (λ e. All-set (λ n. n < 256) r.bytes (a - r.low) b less h) (λ e. h)

  pub puts-bytes : b < 256 → (rs : List Range) → All HasBytes rs → All HasBytes (map (put_byte a b) rs)
  puts-bytes less rs h = All-map HasBytes (put_byte a b) rs (All-weaker HasBytes (λ r. HasBytes (put_byte a b r)) (put-bytes less) rs h)

  -- the range has the same addresses
  put-has : (c : ℕ) (r : Range) → has c (put_byte a b r) ≡ has c r
  put-has c r = ap (λ (k : Mapping). nat_le k.low c && nat_lt c (k.low + k.size)) (put-mapping r)

  put-low : (r : Range) → (put_byte a b r).low ≡ r.low
  put-low r = ap (λ (k : Mapping). k.low) (put-mapping r)

  get-other : (c : ℕ) (r : Range) → (c ≡ a → ⊥) → has c r ≡ true → slice_get (put_byte a b r).bytes (c - r.low) ≡ slice_get r.bytes (c - r.low)
  get-other c r off h =
      cond_both (has a r && r.write) (record r { bytes = slice_set r.bytes (a - r.low) b }) r (λ s. slice_get s.bytes (c - r.low) ≡ slice_get r.bytes (c - r.low))
      (λ e.
      let own = is_in r a ((and_parts (has a r) r.write e).0) in
      let other = is_in r c h in
      let l : c - r.low < length r.bytes = omega (arith, other.low, other.end) in
      let l' : c - r.low < length (slice_set r.bytes (a - r.low) b) = omega (arith, l, length-set r.bytes (a - r.low) b) in
      let ne : c - r.low ≡ a - r.low → ⊥ = λ q. off (omega (arith, q, own.low, other.low)) in
      slice_get-get_or (slice_set r.bytes (a - r.low) b) (c - r.low) 0 l'
      ∙ ap Some (get_or-set_other r.bytes (a - r.low) (c - r.low) b 0 ne)
      ∙ sym (slice_get-get_or r.bytes (c - r.low) 0 l))
      (λ e. refl)

  get-same : (r : Range) → has a r ≡ true → r.write ≡ true → slice_get (put_byte a b r).bytes (a - r.low) ≡ Some b
  get-same r h w =
      let own = is_in r a h in
      let l : a - r.low < length r.bytes = omega (arith, own.low, own.end) in
      let l' : a - r.low < length (slice_set r.bytes (a - r.low) b) = omega (arith, l, length-set r.bytes (a - r.low) b) in
      ap (λ t. slice_get (cond t (record r { bytes = slice_set r.bytes (a - r.low) b }) r).bytes (a - r.low)) (and_from (has a r) r.write h w)
      ∙ slice_get-get_or (slice_set r.bytes (a - r.low) b) (a - r.low) 0 l'
      ∙ ap Some (get_or-set_same r.bytes (a - r.low) b 0 l)

  -- ---- one byte of a list

  here : (c : ℕ) (r : Range) (rs : List Range) → has c r ≡ true → byte_at (map (put_byte a b) (r ∷ rs)) c ≡ slice_get (put_byte a b r).bytes (c - r.low)
  here c r rs h =
      byte_at-here (put_byte a b r) (map (put_byte a b) rs) c (put-has c r ∙ h) ∙ ap (λ l. slice_get (put_byte a b r).bytes (c - l)) (put-low r)

  pub byte-other : (rs : List Range) (c : ℕ) → (c ≡ a → ⊥) → byte_at (map (put_byte a b) rs) c ≡ byte_at rs c
  byte-other [] c off = refl
  byte-other (r ∷ rs) c off =
      elim (cases_Bool (has c r)) [
        | inl h ↦ here c r rs h ∙ get-other c r off h ∙ sym (byte_at-here r rs c h)
        | inr h ↦ byte_at-there (put_byte a b r) (map (put_byte a b) rs) c (put-has c r ∙ h) ∙ byte-other rs c off ∙ sym (byte_at-there r rs c h)
      ]

  byte-turn : (r : Range) (rs : List Range) → AllPairs AreApart (r ∷ rs) → All (AreApart r) rs → may_write (r ∷ rs) a ≡ true
      → (may_write rs a ≡ true → byte_at (map (put_byte a b) rs) a ≡ Some b)
      → byte_at (map (put_byte a b) (r ∷ rs)) a ≡ Some b
  byte-turn r rs apart first e rest =
      elim (or_cases (writes_at a (mapping_of r)) (list_any (writes_at a) (map mapping_of rs)) (sym (is_written (r ∷ rs) a) ∙ e)) [
        | inl k ↦ let parts = and_parts r.write (has a r) k in here a r rs parts.1 ∙ get-same r parts.1 parts.0
        | inr k ↦
            let w : may_write rs a ≡ true = is_written rs a ∙ k in
            let off : has a r ≡ false = apart_not_in r rs a first (written_mapped rs a w) in
            byte_at-there (put_byte a b r) (map (put_byte a b) rs) a (put-has a r ∙ off) ∙ rest w
      ]

  pub byte-same : (rs : List Range) → AllPairs AreApart rs → may_write rs a ≡ true → byte_at (map (put_byte a b) rs) a ≡ Some b
  byte-same [] apart e = absurd (false≢true (sym (is_written [] a) ∙ e))
  byte-same (r ∷ rs) apart e = byte-turn r rs apart (pairs_head r rs apart) e (λ w. byte-same rs (pairs_tail r rs apart) w)

  -- what may not be written stays
  put-fixed : (r : Range) → r.write ≡ false → put_byte a b r ≡ r
  put-fixed r w = cond-false (has a r && r.write) _ r (and_right (has a r) r.write w)

  puts-code : (rs : List Range) → All IsFixedCode rs → filter (λ r. r.execute) (map (put_byte a b) rs) ≡ filter (λ r. r.execute) rs
  puts-code [] h = refl
  puts-code (r ∷ rs) h =
      let same : (put_byte a b r).execute ≡ r.execute = ap (λ (k : Mapping). k.execute) (put-mapping r) in
      let rest = puts-code rs (All-tail IsFixedCode r rs h) in
      elim (cases_Bool r.execute) [
        | inl x ↦
            let fixed : put_byte a b r ≡ r = put-fixed r (All-head IsFixedCode r rs h x) in
            cond-true (put_byte a b r).execute _ _ (same ∙ x) ∙ ap (λ s. s ∷ filter (λ r. r.execute) (map (put_byte a b) rs)) fixed ∙ ap (λ l. r ∷ l) rest ∙ sym (cond-true r.execute _ _ x)
        | inr x ↦ cond-false (put_byte a b r).execute _ _ (same ∙ x) ∙ rest ∙ sym (cond-false r.execute _ _ x)
      ]

  pub code-same : (rs : List Range) (c : ℕ) → All IsFixedCode rs → code_at (map (put_byte a b) rs) c ≡ code_at rs c
  unfolding code_at
  code-same rs c h = ap (λ l. byte_at l c) (puts-code rs h)

-- ---- bytes one after another

-- the byte that is mapped at an address, or 0
abbrev pub byte_of : List Range → ℕ → ℕ
byte_of ranges a = unwrap_or (byte_at ranges a) 0

-- the number of bytes one after another, the lowest first
abbrev pub number_from : (ℕ → ℕ) → ℕ → ℕ → ℕ
number_from b zero a = 0
number_from b (suc count) a = b a + 256 * number_from b count (a + 1)

-- the low bytes of a number
abbrev pub low_bytes : ℕ → ℕ → ℕ
low_bytes zero v = 0
low_bytes (suc count) v = v % 256 + 256 * low_bytes count (v / 256)

pub byte-fits : (ranges : List Range) (a : ℕ) → All HasBytes ranges → byte_of ranges a < 256
byte-fits [] a h = simp (byte_at-none a) (omega arith)
byte-fits (r ∷ rs) a h =
    elim (cases_Bool (has a r)) [
      | inl k ↦
          let i = is_in r a k in
          let l : a - r.low < length r.bytes = omega (arith, i.low, i.end) in
          let e : byte_at (r ∷ rs) a ≡ Some (get_or r.bytes (a - r.low) 0) = byte_at-here r rs a k ∙ slice_get-get_or r.bytes (a - r.low) 0 l in
          subst (λ o. unwrap_or o 0 < 256) (sym e) (All-head HasBytes r rs h (a - r.low) 0 l)
      | inr k ↦ subst (λ o. unwrap_or o 0 < 256) (sym (byte_at-there r rs a k)) (byte-fits rs a (All-tail HasBytes r rs h))
    ]

pub number-fits : (b : ℕ → ℕ) (w : Width) (a : ℕ) → ((c : ℕ) → b c < 256) → number_from b (bytes_of w) a < 2 ^ bits_of w
number-fits b B8 a h = omega (arith, h a)
number-fits b B16 a h = omega (arith, h a, h (a + 1))
number-fits b B32 a h = omega (arith, h a, h (a + 1), h (a + 1 + 1), h (a + 1 + 1 + 1))

pub low-bytes : (w : Width) (v : ℕ) → low_bytes (bytes_of w) v ≡ v % 2 ^ bits_of w
low-bytes B8 v = omega arith
low-bytes B16 v = omega arith
low-bytes B32 v = omega arith

-- an access in user space goes on to the next address
next-is : (ranges : List Range) (a : ℕ) → All IsInUserSpace ranges → is_some (byte_at ranges a) ≡ true → next_byte a ≡ a + 1
next-is ranges a inside e = (let k = mapped_inside ranges a e inside in omega (arith, k.1))

-- ---- a load

record IsLow (o p : Option ℕ) (x : ℕ) : Type 0 where
  pub byte : ℕ
  pub rest : ℕ
  pub byte_is : o ≡ Some byte
  pub rest_is : p ≡ Some rest
  pub sum : byte + 256 * rest ≡ x

low-is : (o p : Option ℕ) (x : ℕ) → with_low_byte o p ≡ Some x → IsLow o p x
low-is (Some b) (Some n) x e = record { byte = b; rest = n; byte_is = refl; rest_is = refl; sum = cc }
low-is (Some b) None x e = absurd (cc)
low-is None p x e = absurd (cc)

-- each byte is mapped, and they are a number's
pub record IsLoaded (ranges : List Range) (count a x : ℕ) : Type 0 where
  pub mapped : (i : ℕ) → i < count → is_some (byte_at ranges (a + i)) ≡ true
  pub number : number_from (byte_of ranges) count a ≡ x

at-first : (P : ℕ → Type 0) (a : ℕ) → P a → P (a + 0)
at-first P a h = (let e : a ≡ a + 0 = omega arith in subst P e h)

at-later : (P : ℕ → Type 0) (a i : ℕ) → P (a + 1 + i) → P (a + suc i)
at-later P a i h = (let e : a + 1 + i ≡ a + suc i = omega arith in subst P e h)

-- a fact at the first place, and at all later ones
from-first : (P : ℕ → Type 0) (count a : ℕ) → P a → ((i : ℕ) → i < count → P (a + 1 + i)) → (i : ℕ) → i < suc count → P (a + i)
from-first P count a first later zero l = at-first P a first
from-first P count a first later (suc i) l = at-later P a i (later i (omega (arith, l)))

pub loaded-is : (ranges : List Range) (count a x : ℕ) → All IsInUserSpace ranges → number_at ranges count a ≡ Some x → IsLoaded ranges count a x
unfolding number_at
loaded-is ranges zero a x inside e = record { mapped = λ i l. absurd (omega (arith, l)); number = cc }
loaded-is ranges (suc count) a x inside e =
    let k = low-is (byte_at ranges a) (number_at ranges count (next_byte a)) x e in
    let here : is_some (byte_at ranges a) ≡ true = ap is_some k.byte_is in
    let on : next_byte a ≡ a + 1 = next-is ranges a inside here in
    let rest = loaded-is ranges count (a + 1) k.rest inside (ap (number_at ranges count) (sym on) ∙ k.rest_is) in
    let first : byte_of ranges a ≡ k.byte = ap (λ o. unwrap_or o 0) k.byte_is in
    record {
      mapped = from-first (λ c. is_some (byte_at ranges c) ≡ true) count a here rest.mapped;
      number = ap (λ y. y + 256 * number_from (byte_of ranges) count (a + 1)) first ∙ ap (λ y. k.byte + 256 * y) rest.number ∙ k.sum;
    }

-- ---- a store

-- each byte may be written
pub written-all : (ranges : List Range) (count a : ℕ) → All IsInUserSpace ranges → may_write_all ranges count a ≡ true → (i : ℕ) → i < count → may_write ranges (a + i) ≡ true
unfolding may_write_all
written-all ranges zero a inside e = λ i l. absurd (omega (arith, l))
written-all ranges (suc count) a inside e =
    let parts = and_parts (may_write ranges a) (may_write_all ranges count (next_byte a)) e in
    let on : next_byte a ≡ a + 1 = next-is ranges a inside (written_mapped ranges a parts.0) in
    from-first (λ c. may_write ranges c ≡ true) count a parts.0 (written-all ranges count (a + 1) inside (ap (may_write_all ranges count) (sym on) ∙ parts.1))

all-same : (rs ss : List Range) (count a : ℕ) → map mapping_of rs ≡ map mapping_of ss → may_write_all rs count a ≡ may_write_all ss count a
unfolding may_write_all
all-same rs ss zero a e = refl
all-same rs ss (suc count) a e =
    ap (λ b. b && may_write_all rs count (next_byte a)) (written_same rs ss a e) ∙ ap (λ b. may_write ss a && b) (all-same rs ss count (next_byte a) e)

-- the memory n is m with other bytes from an address on, and nothing else is changed
pub record IsStored (count a v : ℕ) (m n : MachineState) : Type 0 where
  pub registers : n.registers ≡ m.registers
  pub eip : n.eip ≡ m.eip
  pub flags : n.flags ≡ m.flags
  pub fs : n.fs ≡ m.fs
  pub gs : n.gs ≡ m.gs
  pub stack : mapping_of n.stack ≡ mapping_of m.stack
  pub mappings : map mapping_of (memory n) ≡ map mapping_of (memory m)
  pub bytes : All HasBytes (memory m) → All HasBytes (memory n)
  pub code : All IsFixedCode (memory m) → (c : ℕ) → code_at (memory n) c ≡ code_at (memory m) c
  pub others : (c : ℕ) → ((i : ℕ) → i < count → c ≡ a + i → ⊥) → byte_at (memory n) c ≡ byte_at (memory m) c
  pub number : number_from (byte_of (memory n)) count a ≡ low_bytes count v

fixed-mapped : (rs ss : List Range) → map mapping_of rs ≡ map mapping_of ss → All IsFixedCode rs → All IsFixedCode ss
fixed-mapped rs ss e h =
    All-mapped IsFixedCode (λ r s q f x. sym (ap (λ (k : Mapping). k.write) q) ∙ f (ap (λ (k : Mapping). k.execute) q ∙ x)) rs ss e h

pub stored-is : (count a v : ℕ) (m : MachineState) → All IsInUserSpace (memory m) → AllPairs AreApart (memory m) → may_write_all (memory m) count a ≡ true → IsStored count a v m (with_number count a v m)
unfolding with_number may_write_all
stored-is zero a v m inside apart e =
    record { registers = refl; eip = refl; flags = refl; fs = refl; gs = refl; stack = refl; mappings = refl; bytes = λ h. h; code = λ h c. refl; others = λ c off. refl; number = refl }
stored-is (suc count) a v m inside apart e =
    let b = v % 256 in
    let next = with_byte a b m in
    let parts = and_parts (may_write (memory m) a) (may_write_all (memory m) count (next_byte a)) e in
    let on : next_byte a ≡ a + 1 = next-is (memory m) a inside (written_mapped (memory m) a parts.0) in
    let same : map mapping_of (memory next) ≡ map mapping_of (memory m) = puts-mapping a b (memory m) in
    let more : may_write_all (memory next) count (a + 1) ≡ true = all-same (memory next) (memory m) count (a + 1) same ∙ ap (may_write_all (memory m) count) (sym on) ∙ parts.1 in
    let n = with_number count (a + 1) (v / 256) next in
    let rest : IsStored count (a + 1) (v / 256) next n = stored-is count (a + 1) (v / 256) next (inside_mapped (memory m) (memory next) (sym same) inside) (apart_mapped (memory m) (memory next) (sym same) apart) more in
    let first : byte_of (memory n) a ≡ b =
    ap (λ o. unwrap_or o 0) (rest.others a (λ i l q. omega (arith, q)) ∙ byte-same a b (memory m) apart parts.0) in
    let Q : ℕ → Type 0 = λ c. IsStored (suc count) a v m (with_number count c (v / 256) next) in
    subst Q (sym on) (record {
      registers = rest.registers;
      eip = rest.eip;
      flags = rest.flags;
      fs = rest.fs;
      gs = rest.gs;
      stack = rest.stack ∙ put-mapping a b m.stack;
      mappings = rest.mappings ∙ same;
      bytes = λ h. rest.bytes (puts-bytes a b (omega arith) (memory m) h);
      code = λ h c. rest.code (fixed-mapped (memory m) (memory next) (sym same) h) c ∙ code-same a b (memory m) c h;
      others = λ c off.
          rest.others c (λ i l q. off (suc i) (omega (arith, l)) (omega (arith, q)))
          ∙ byte-other a b (memory m) c (λ q. off 0 (omega arith) (omega (arith, q)));
      number = ap (λ y. y + 256 * number_from (byte_of (memory n)) count (a + 1)) first ∙ ap (λ y. b + 256 * y) rest.number;
    })

-- ---- words

-- a word that is read: its bytes are mapped, and it fits its width
pub record IsWordLoaded (w : Width) (a x : ℕ) (m : MachineState) : Type 0 where
  pub mapped : (i : ℕ) → i < bytes_of w → is_some (byte_at (memory m) (a + i)) ≡ true
  pub number : number_from (byte_of (memory m)) (bytes_of w) a ≡ x
  pub fits : x < 2 ^ bits_of w

pub word-loaded : (w : Width) (a x : ℕ) (m : MachineState) → All IsInUserSpace (memory m) → All HasBytes (memory m) → word_at w a m ≡ Some x → IsWordLoaded w a x m
unfolding word_at
word-loaded w a x m inside bytes e =
    let k = loaded-is (memory m) (bytes_of w) a x inside e in
    record {
      mapped = k.mapped;
      number = k.number;
      fits = subst (λ y. y < 2 ^ bits_of w) k.number (number-fits (byte_of (memory m)) w a (λ c. byte-fits (memory m) c bytes));
    }

-- a word that is stored: its bytes could be written, they are the number's, and all else stays
pub record IsWordStored (w : Width) (a v : ℕ) (m n : MachineState) : Type 0 where
  pub written : (i : ℕ) → i < bytes_of w → may_write (memory m) (a + i) ≡ true
  pub is : IsStored (bytes_of w) a v m n
  pub number : v < 2 ^ bits_of w → number_from (byte_of (memory n)) (bytes_of w) a ≡ v

pub word-stored : (w : Width) (a v : ℕ) (m n : MachineState) → All IsInUserSpace (memory m) → AllPairs AreApart (memory m) → stored w a v m ≡ Some n → IsWordStored w a v m n
unfolding stored
word-stored w a v m n inside apart e =
    let parts = cond_some (may_write_all (memory m) (bytes_of w) a) (with_number (bytes_of w) a v m) n e in
    let is : IsStored (bytes_of w) a v m n = subst (λ z. IsStored (bytes_of w) a v m z) parts.1 (stored-is (bytes_of w) a v m inside apart parts.0) in
    record {
      written = written-all (memory m) (bytes_of w) a inside parts.0;
      is = is;
      number = λ fits. is.number ∙ low-bytes w v ∙ mod-eq_of_lt fits;
    }

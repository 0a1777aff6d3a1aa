-- Where the stack pointer is, and what is known of the words from it on.
use Rattle.std.proofs.Common.{ℕ, zero, suc, ◌≡◌, ◌+◌, ◌-◌, ◌*◌, ◌/◌, ◌%◌, ◌^◌, ◌<◌, ◌≤◌, true, false, cond, List, Option, Some, None, refl, sym, ap, ◌∙◌, subst, arith, ℤ, pos, negsuc, neg_ℤ, ◌+ℤ◌, ◌-ℤ◌, ◌≤ℤ◌, ◌<ℤ◌}
use Rattle.std.specs.Prelude.{All, is_some, int_le, nat_le, nat_lt, unwrap_or}
use Rattle.std.proofs.lemmas.Bool.{and_from, and_parts, le-leb, leb-true, lt-ltb, or_left}
use Rattle.std.proofs.lemmas.Int.{ints}
use Rattle.std.specs.List.{list_any}
use Rattle.std.proofs.Common.{map}
use Rattle.bit_words.specs.declared.width.Width.TheVariants.{B32}
use Rattle.memory_map.specs.Image.{Image}
use Rattle.memory_map.specs.Range.{Range, byte_at, end_of, has, holds, mapping_of, HasBytes, IsInUserSpace}
use Rattle.memory_map.specs.State.{MachineState, memory}
use Rattle.memory_map.proofs.Mappings.{is_mapped, lies_at}
use Rattle.address_regions.specs.declared.region.Region.TheVariants.{Stack}
use Rattle.address_regions.specs.Extents.{high_of, low_of}
use Rattle.address_regions.specs.Places.{Places, place_at}
use Rattle.address_regions.proofs.PlaceLaws.{place_at-is, residue, residue-is}
use Rattle.domain_laws.specs.Laws.{IsLawful, Values}
use Rattle.partitioned_memory.specs.declared.area.Area.TheVariants.{In}
use Rattle.partitioned_memory.specs.Describes.{number_in}
use Rattle.partitioned_memory.proofs.CallsKept.{read-stands}
use Rattle.partitioned_memory.proofs.Orders.{int_le-true}
use Rattle.x86_semantics.specs.Memory.{next_byte, number_at, with_low_byte, word_at}
use Rattle.x86_semantics.proofs.Storing.{byte_of, number_from, word-loaded}
use Rattle.abstract_state.specs.Accessing.{lies_in_extent, value_at}
use Rattle.abstract_state.specs.Describes.{Describes, Fits, byte_in}
use Rattle.abstract_state.specs.State.{Known}
use Rattle.abstract_state.proofs.BridgeBytes.{number_in-is, region-bytes}
use Rattle.import_semantics.specs.StubDoes.{stack_word}
use Rattle.import_stubs.specs.Stub.{word_above}
use Rattle.import_stubs.proofs.SoundBytes.{next-on}

-- ---- the stack pointer

-- an integer is the only one near it with its remainder
near : (z : ℤ) (x : ℕ) → residue z ≡ x → (z -ℤ pos (2 ^ 32)) <ℤ pos x → pos x <ℤ (z +ℤ pos (2 ^ 32)) → pos x ≡ z
near (pos a) x e low high =
    let is : a % 2 ^ 32 ≡ x = e in
    omega (arith, ints, is, low, high)
near (negsuc a) x e low high =
    let k = a / 2 ^ 32 + 1 in
    let m = k * 2 ^ 32 - a - 1 in
    let is : residue (negsuc a) ≡ m % 2 ^ 32 = residue-is (negsuc a) k m (omega (arith, ints)) in
    let same : x ≡ m % 2 ^ 32 = sym e ∙ is in
    absurd (omega (arith, ints, same, low, high))

-- the stack pointer is the stack's base plus an offset, and so many bytes from it on are bytes of the stack
pub record IsFrame (p : Places) (o : ℤ) (m : MachineState) (n : ℕ) : Type 0 where
  pub sum : pos m.registers.esp ≡ pos p.stack +ℤ o
  pub low : low_of Stack ≤ℤ o
  pub end : (o +ℤ pos n) ≤ℤ high_of Stack

pub frame-is : (image : Image) (p : Places) (o : ℤ) (m : MachineState) (n : ℕ) → Fits image p m → m.registers.esp ≡ place_at p.stack o → neg_ℤ (pos (2 ^ 31)) ≤ℤ o → o <ℤ pos (2 ^ 31)
    → holds m.registers.esp n m.stack ≡ true → IsFrame p o m n
frame-is image p o m n f esp least most e =
    let parts = and_parts (nat_le m.stack.low m.registers.esp) (nat_le (m.registers.esp + n) (end_of m.stack)) e in
    let above = leb-true m.stack.low m.registers.esp parts.0 in
    let below = leb-true (m.registers.esp + n) (end_of m.stack) parts.1 in
    let low = f.stack.low in let size = f.stack.size in
    let sum : pos m.registers.esp ≡ pos p.stack +ℤ o =
    near (pos p.stack +ℤ o) m.registers.esp (sym esp) (omega (arith, ints, above, low, most)) (omega (arith, ints, below, low, size, least)) in
    record { sum = sum; low = omega (arith, ints, sum, above, low); end = omega (arith, ints, sum, below, low, size) }

-- ---- words

-- where each byte is mapped, the number is that of the bytes
number-there : (ranges : List Range) (count a : ℕ) → All IsInUserSpace ranges → ((c : ℕ) → a ≤ c → c < a + count → is_some (byte_at ranges c) ≡ true) → number_at ranges count a ≡ Some (number_from (byte_of ranges) count a)
unfolding number_at
number-there ranges zero a inside each = refl
number-there ranges (suc count) a inside each =
    let here : is_some (byte_at ranges a) ≡ true = each a (omega arith) (omega arith) in
    let on : next_byte a ≡ a + 1 = next-on ranges a inside here in
    let rest = number-there ranges count (a + 1) inside (λ c low high. each c (omega (arith, low)) (omega (arith, high))) in
    ap (with_low_byte (byte_at ranges a)) (ap (number_at ranges count) on ∙ rest) ∙ joined (byte_at ranges a) (number_from (byte_of ranges) count (a + 1)) here
  where
    joined : (o : Option ℕ) (n : ℕ) → is_some o ≡ true → with_low_byte o (Some n) ≡ Some (unwrap_or o 0 + 256 * n)
    joined (Some b) n e = refl
    joined None n e = cc

-- an address of the stack window is mapped
stack-mapped : (m : MachineState) (c : ℕ) → has c m.stack ≡ true → is_some (byte_at (memory m) c) ≡ true
stack-mapped m c h = is_mapped (memory m) c ∙ or_left (has c m.stack) (list_any (lies_at c) (map mapping_of m.ranges)) h

word-fits : (o : Option ℕ) → ((x : ℕ) → o ≡ Some x → x < 2 ^ 32) → unwrap_or o 0 < 2 ^ 32
word-fits None h = omega arith
word-fits (Some x) h = h x refl

pub stack_word-fits : (above : ℕ) (m : MachineState) → All IsInUserSpace (memory m) → All HasBytes (memory m) → stack_word above m < 2 ^ 32
stack_word-fits above m inside bytes =
    word-fits (word_at B32 (m.registers.esp + above) m) (λ x e. (word-loaded B32 (m.registers.esp + above) x m inside bytes e).fits)

module _ {D : Type 0} (d : Values D) (l : IsLawful d) (image : Image) (p : Places) where
  -- what is known of a word above the stack pointer stands for the machine's
  pub word-stands : (o : ℤ) (above : ℕ) (s : Known D) (m : MachineState) → Describes d image s p m → pos m.registers.esp ≡ pos p.stack +ℤ o → d.stands (word_above d image o above s) p (stack_word above m)
  unfolding word_at
  word-stands o above s m h sum =
      let low = o +ℤ pos above in
      let known = value_at d image (In Stack) low B32 s in
      elim (lies_in_extent Stack low (low +ℤ pos 4)) as (λ b. lies_in_extent Stack low (low +ℤ pos 4) ≡ b → d.stands (cond b known d.any) p (stack_word above m)) [
        | true ↦ λ e.
            let f = h.fits in
            let parts = and_parts (int_le (low_of Stack) low) (int_le (low +ℤ pos 4) (high_of Stack)) e in
            let least = int_le-true (low_of Stack) low parts.0 in
            let most = int_le-true (low +ℤ pos 4) (high_of Stack) parts.1 in
            let allowed = f.valid.allowed Stack p.stack refl in
            let a = m.registers.esp + above in
            let top = allowed.high in
            let at : place_at p.stack low ≡ a = place_at-is p.stack low a (omega (arith, ints, sum)) (omega (arith, ints, sum, most, top)) in
            let bottom = f.stack.low in let size = f.stack.size in
            let mapped : (c : ℕ) → a ≤ c → c < a + 4 → is_some (byte_at (memory m) c) ≡ true = λ c from to.
            stack-mapped m c (and_from (nat_le m.stack.low c) (nat_lt c (end_of m.stack))
            (le-leb m.stack.low c (omega (arith, ints, sum, least, bottom, from))) (lt-ltb c (end_of m.stack) (omega (arith, ints, sum, most, bottom, size, to)))) in
            let word : word_at B32 a m ≡ Some (number_from (byte_of (memory m)) 4 a) = number-there (memory m) 4 a f.inside mapped in
            let number : number_in (byte_in m) p.stack low B32 ≡ number_from (byte_of (memory m)) 4 (place_at p.stack low) = number_in-is (byte_in m) p.stack low B32 (omega (arith, ints, at, sum, most, top)) in
            let same : number_in (byte_in m) p.stack low B32 ≡ stack_word above m =
            number ∙ ap (number_from (byte_of (memory m)) 4) at ∙ sym (ap (λ w. unwrap_or w 0) word) in
            subst (d.stands known p) same (read-stands d l image.segments image.unset p (byte_in m) s.parts (In Stack) p.stack low B32 f.valid refl (region-bytes image.segments Stack low (low +ℤ pos 4) least most) h.parts)
        | false ↦ λ e. l.any_stands p (stack_word above m) h.fits.valid
      ] refl

-- Bytes of the image that are known: how they are looked up, and that they are memory's.
use Rattle.std.proofs.Common.{◌≡◌, ℕ, ◌<◌, ◌^◌, zero, suc, Bool, true, false, cond, List, [], ◌∷◌, Option, Some, None, refl, sym, ap, ◌∙◌, subst, arith, ℤ, pos, ◌+ℤ◌, ◌-ℤ◌, ◌≤ℤ◌, ◌<ℤ◌}
use Rattle.std.specs.Prelude.{◌/◌, ◌%◌, find, is_some, option_and_then, unsigned_abs}
use Rattle.std.specs.Option.{option_map, option_or}
use Rattle.std.proofs.lemmas.Bool.{false≢true, and_parts}
use Rattle.std.proofs.lemmas.Int.{ints}
use Rattle.bit_words.specs.declared.width.Width.{Width}
use Rattle.bit_words.specs.declared.width.Width.TheVariants.{B8, B16, B32}
use Rattle.bit_words.specs.Width.{bytes_of}
use Rattle.memory_map.specs.declared.span.Span.{Span}
use Rattle.memory_map.specs.Range.{Range, byte_at}
use Rattle.address_regions.specs.Places.{Places, IsValid, place_at}
use Rattle.address_regions.proofs.PlaceLaws.{place_at-is}
use Rattle.domain_laws.specs.Laws.{IsLawful, Values}
use Rattle.partitioned_memory.specs.declared.area.Area.TheVariants.{Image}
use Rattle.partitioned_memory.specs.declared.fact.Fact.{Fact}
use Rattle.partitioned_memory.specs.Areas.{has_byte, interval_at}
use Rattle.partitioned_memory.specs.Lists.{Every}
use Rattle.partitioned_memory.specs.Held.{PartsHeld, interval_of_fact, known_byte}
use Rattle.partitioned_memory.specs.KnownBytes.{byte_held, byte_of_fact, is_number_at, known_image_byte}
use Rattle.partitioned_memory.specs.Describes.{IsDescribed, IsTrueOf, StartsAt, number_in}
use Rattle.partitioned_memory.proofs.Bytes.{IsByte, byte-is}

-- ---- looking up

pub find-passes : {X : Type 0} (t : X → Bool) (xs : List X) (x : X) → find t xs ≡ Some x → t x ≡ true
find-passes t [] x e = absurd (cc)
find-passes t (y ∷ ys) x e =
    elim (t y) as (λ b. t y ≡ b → cond b (Some y) (find t ys) ≡ Some x → t x ≡ true) [
      | true ↦ λ k q. (let same : y ≡ x = cc in ap t (sym same) ∙ k)
      | false ↦ λ k q. find-passes t ys x q
    ] refl e

pub find-held : {X : Type 0} (P : X → Type 0) (t : X → Bool) (xs : List X) (x : X) → find t xs ≡ Some x → Every P xs → P x
find-held P t [] x e h = absurd (cc)
find-held P t (y ∷ ys) x e h =
    elim (t y) as (λ b. cond b (Some y) (find t ys) ≡ Some x → P x) [
      | true ↦ λ q. (let same : y ≡ x = cc in subst P same h.0)
      | false ↦ λ q. find-held P t ys x q h.1
    ] e

module _ {D : Type 0} (d : Values D) where
  -- the byte of a fact that is a number comes before any other
  number-alone : (o : ℤ) (f : Fact D) (other : Option ℕ) (n : ℕ) → is_number_at d o f ≡ true → option_or (byte_of_fact d o f) other ≡ Some n → byte_of_fact d o f ≡ Some n
  number-alone o f other n at e =
      let has = and_parts (has_byte (interval_of_fact f) Image o) (is_some (d.number_of f.value)) at in
      elim (d.number_of f.value) as (λ v. is_some v ≡ true → option_or (option_map (λ x. x / 256 ^ unsigned_abs (o -ℤ f.low) % 256) v) other ≡ Some n → option_map (λ x. x / 256 ^ unsigned_abs (o -ℤ f.low) % 256) v ≡ Some n) [
        | None ↦ λ k q. absurd (false≢true k)
        | Some x ↦ λ k q. q
      ] has.1 e

  -- it has at most four bytes
  below_four : (low o : ℤ) (w : Width) → o <ℤ (low +ℤ pos (bytes_of w)) → o <ℤ (low +ℤ pos 4)
  below_four low o B8 h = omega (arith, ints, h)
  below_four low o B16 h = omega (arith, ints, h)
  below_four low o B32 h = h

  pub number-spans : (f : Fact D) (o : ℤ) → is_number_at d o f ≡ true → IsByte (interval_at f.area f.low (pos 4)) Image o
  number-spans f o e =
      let own = byte-is (interval_of_fact f) Image o (and_parts (has_byte (interval_of_fact f) Image o) (is_some (d.number_of f.value)) e).0 in
      record { area = own.area; low = own.low; high = below_four f.low o f.w own.high }

-- ---- bytes of numbers

abbrev Fits : (ℕ → ℕ) → Type 0
Fits b = (n : ℕ) → b n < 256

module _ (b : ℕ → ℕ) (fits : Fits b) (base : ℕ) where
  at_low : (low : ℤ) → b (place_at base low) ≡ b (place_at base (low +ℤ pos 0))
  at_low low = (let same : low ≡ low +ℤ pos 0 = omega (arith, ints) in ap (λ o. b (place_at base o)) same)

  at_third : (low : ℤ) → b (place_at base (low +ℤ pos 2 +ℤ pos 1)) ≡ b (place_at base (low +ℤ pos 3))
  at_third low = (let same : low +ℤ pos 2 +ℤ pos 1 ≡ low +ℤ pos 3 = omega (arith, ints) in ap (λ o. b (place_at base o)) same)

  -- the byte of a number at a place is the byte there
  number-byte : (low : ℤ) (w : Width) (i : ℕ) → i < bytes_of w → number_in b base low w / 256 ^ i % 256 ≡ b (place_at base (low +ℤ pos i))
  number-byte low B8 zero less = (let x = fits (place_at base low) in omega (arith, x, at_low low))
  number-byte low B8 (suc i) less = absurd (omega arith)
  number-byte low B16 zero less = (let x = fits (place_at base low) in omega (arith, x, at_low low))
  number-byte low B16 (suc zero) less = (let x = fits (place_at base low) in let y = fits (place_at base (low +ℤ pos 1)) in omega (arith, x, y))
  number-byte low B16 (suc (suc i)) less = absurd (omega arith)
  number-byte low B32 zero less = (let x = fits (place_at base low) in omega (arith, x, at_low low))
  number-byte low B32 (suc zero) less = (let x = fits (place_at base low) in let y = fits (place_at base (low +ℤ pos 1)) in omega (arith, x, y))
  number-byte low B32 (suc (suc zero)) less =
      let x = fits (place_at base low) in
      let y = fits (place_at base (low +ℤ pos 1)) in
      let z = fits (place_at base (low +ℤ pos 2)) in
      omega (arith, x, y, z)
  number-byte low B32 (suc (suc (suc zero))) less =
      let x = fits (place_at base low) in
      let y = fits (place_at base (low +ℤ pos 1)) in
      let z = fits (place_at base (low +ℤ pos 2)) in
      let t = fits (place_at base (low +ℤ pos 2 +ℤ pos 1)) in
      omega (arith, x, y, z, t, at_third low)
  number-byte low B32 (suc (suc (suc (suc i)))) less = absurd (omega arith)

-- ---- known bytes

-- how far an offset lies above another
pub record IsAbove (low o : ℤ) (n : ℕ) : Type 0 where
  pub by : ℕ
  pub less : by < n
  pub is : low +ℤ pos by ≡ o
  pub distance : unsigned_abs (o -ℤ low) ≡ by

pub above-is : (low o : ℤ) (n : ℕ) → low ≤ℤ o → o <ℤ (low +ℤ pos n) → IsAbove low o n
above-is low o n least below = record { by = unsigned_abs (o -ℤ low); less = omega (arith, ints); is = omega (arith, ints); distance = refl }

module _ {D : Type 0} (d : Values D) (laws : IsLawful d) (p : Places) (valid : IsValid p) (b : ℕ → ℕ) (fits : Fits b) where
  at_zero : (a : ℕ) → a < 2 ^ 32 → place_at 0 (pos a) ≡ a
  at_zero a less = place_at-is 0 (pos a) a (omega (arith, ints)) less

  -- the byte that a fact says is memory's
  fact-byte : (f : Fact D) (a n : ℕ) → a < 2 ^ 32 → IsTrueOf d p b f → is_number_at d (pos a) f ≡ true → byte_of_fact d (pos a) f ≡ Some n → b a ≡ n
  fact-byte f a n less holds at e =
      let has = and_parts (has_byte (interval_of_fact f) Image (pos a)) (is_some (d.number_of f.value)) at in
      let own = byte-is (interval_of_fact f) Image (pos a) has.0 in
      let above = above-is f.low (pos a) (bytes_of f.w) own.low own.high in
      elim (d.number_of f.value) as (λ o. d.number_of f.value ≡ o → option_map (λ x. x / 256 ^ unsigned_abs (pos a -ℤ f.low) % 256) o ≡ Some n → b a ≡ n) [
        | None ↦ λ k q. absurd (cc)
        | Some x ↦ λ k q.
            let is : number_in b 0 f.low f.w ≡ x = laws.number_of_alone f.value x p (number_in b 0 f.low f.w) valid k (holds 0 (subst (λ area. StartsAt p area 0) (sym own.area) refl)) in
            let byte = number-byte b fits 0 f.low f.w above.by above.less in
            let place : place_at 0 (f.low +ℤ pos above.by) ≡ a = ap (place_at 0) above.is ∙ at_zero a less in
            let told : x / 256 ^ unsigned_abs (pos a -ℤ f.low) % 256 ≡ n = cc in
            sym (ap b place) ∙ sym byte ∙ ap (λ y. y / 256 ^ above.by % 256) is ∙ ap (λ i. x / 256 ^ i % 256) (sym above.distance) ∙ told
      ] refl e

  -- where the parts describe memory, a known byte of the image is the one there
  pub known-byte_stands : (ranges : List Range) (unset : List Span) (h : PartsHeld D) (a n : ℕ) → a < 2 ^ 32 → IsDescribed d ranges unset p h b → known_image_byte d ranges unset h a ≡ Some n → b a ≡ n
  known-byte_stands ranges unset h a n less x e =
      let held = byte_held d (pos a) h.facts in
      let clean = known_byte ranges unset h.dirty Image (pos a) in
      elim (is_some (byte_at ranges a)) as (λ t. is_some (byte_at ranges a) ≡ t → cond t (option_or held clean) None ≡ Some n → b a ≡ n) [
        | false ↦ λ k q. absurd (cc)
        | true ↦ λ k q.
            elim (find (is_number_at d (pos a)) h.facts) as (λ o. find (is_number_at d (pos a)) h.facts ≡ o → option_or (option_and_then (byte_of_fact d (pos a)) o) clean ≡ Some n → b a ≡ n) [
              | None ↦ λ _ r. sym (ap b (at_zero a less)) ∙ x.clean Image 0 (pos a) n refl k r
              | Some f ↦ λ found r.
                  let at = find-passes (is_number_at d (pos a)) h.facts f found in
                  fact-byte f a n less (find-held (IsTrueOf d p b) (is_number_at d (pos a)) h.facts f found x.facts) at (number-alone d (pos a) f clean n at r)
            ] refl q
      ] refl e

-- What may be held at a width.
use Rattle.std.proofs.Common.{◌≡◌, ℕ, ◌^◌, ◌<◌, true, false, cond, List, [], ◌∷◌, Option, Some, None, refl, sym, ap, ◌∙◌, subst, arith, ℤ, pos}
use Rattle.std.specs.Prelude.{find, ◌==◌, ◌&&◌}
use Rattle.std.specs.Option.{option_map}
use Rattle.std.specs.Ordering.{int_eq}
use Rattle.std.proofs.lemmas.Bool.{and_parts, false≢true}
use Rattle.std.proofs.lemmas.Int.{ints}
use Rattle.bit_words.specs.declared.width.Width.{Width}
use Rattle.bit_words.specs.declared.width.Width.TheVariants.{B32}
use Rattle.bit_words.specs.Width.{bits_of, bytes_of}
use Rattle.address_regions.specs.declared.region.Region.{Region}
use Rattle.address_regions.specs.declared.region.Region.TheVariants.{Stack, Fs, Gs, Block}
use Rattle.address_regions.specs.Extents.{has_one_base}
use Rattle.address_regions.specs.Places.{HasBase, IsAllowed, IsValid, Places, place_at}
use Rattle.domain_laws.specs.Laws.{IsLawful, Values}
use Rattle.domain_laws.specs.Reached.{named}
use Rattle.domain_laws.specs.declared.reach.Reach.{Reach}
use Rattle.domain_laws.specs.declared.reach.Reach.TheVariants.{Number, Place, Anywhere}
use Rattle.partitioned_memory.specs.declared.area.Area.{Area}
use Rattle.partitioned_memory.specs.declared.fact.Counted.{Counted}
use Rattle.partitioned_memory.specs.declared.fact.Fact.{Fact}
use Rattle.partitioned_memory.specs.Areas.{same_area}
use Rattle.partitioned_memory.specs.Lists.{Every}
use Rattle.partitioned_memory.specs.Held.{found, is_at}
use Rattle.partitioned_memory.specs.Well.{HasCount, IsWellFact, MayHold}
use Rattle.partitioned_memory.proofs.Kept.{same_width}

-- there are valid places
some_places : Places
some_places = record { align = 4; stack = 0x80000000; fs = 0x10000; gs = 0x20000; blocks = [] }

some-allowed : (r : Region) (b : ℕ) → HasBase some_places r b → IsAllowed r b
unfolding some_places
some-allowed Stack b e = record { low = omega (arith, ints); high = omega (arith, ints) }
some-allowed Fs b e = record { low = omega (arith, ints); high = omega (arith, ints) }
some-allowed Gs b e = record { low = omega (arith, ints); high = omega (arith, ints) }
some-allowed (Block site size zeroed) b e = absurd (omega (arith, e.1))

some-valid : IsValid some_places
unfolding some_places
some-valid = record {
  alignment = refl;
  aligned = refl;
  allowed = some-allowed;
}

module _ {D : Type 0} (d : Values D) (l : IsLawful d) where
  -- a number tells no other
  pub number-alone : (n m : ℕ) → d.number_of (d.number n) ≡ Some m → n ≡ m
  number-alone n m e = l.number_of_alone (d.number n) m some_places n some-valid e (l.number_stands n some_places some-valid)

  -- any tells none
  pub any-none : (m : ℕ) → d.number_of d.any ≡ Some m → ⊥
  any-none m e =
      let zero_is : 0 ≡ m = l.number_of_alone d.any m some_places 0 some-valid e (l.any_stands some_places 0 some-valid) in
      let one_is : 1 ≡ m = l.number_of_alone d.any m some_places 1 some-valid e (l.any_stands some_places 1 some-valid) in
      omega arith

  pub number-holds : (blocks : List Counted) (w : Width) (n : ℕ) → n < 2 ^ bits_of w → MayHold d blocks w (d.number n)
  number-holds blocks w n less = record {
    fits = λ m e. subst (λ (x : ℕ). x < 2 ^ bits_of w) (number-alone n m e) less;
    counted = subst (HasCount blocks) (sym (l.number_names n)) tt;
  }

  pub any-holds : (blocks : List Counted) (w : Width) → MayHold d blocks w d.any
  any-holds blocks w = record {
    fits = λ m e. absurd (any-none m e);
    counted = subst (HasCount blocks) (sym l.any_names) tt;
  }

-- a region that is named is a block
pub named-block : (x : Reach) (s : Region) → named x ≡ Some s → has_one_base s ≡ false
named-block (Number low high) s e = absurd (cc)
named-block Anywhere s e = absurd (cc)
named-block (Place Stack low high) s e = absurd (cc)
named-block (Place Fs low high) s e = absurd (cc)
named-block (Place Gs low high) s e = absurd (cc)
named-block (Place (Block site size zeroed) low high) s e =
    let same : Block site size zeroed ≡ s = cc in
    subst (λ (r : Region). has_one_base r ≡ false) same refl

-- what names no block needs no count
no-count : (blocks : List Counted) (o : Option Region) → ((s : Region) → o ≡ Some s → ⊥) → HasCount blocks o
no-count blocks None h = tt
no-count blocks (Some s) h = absurd (h s refl)

-- the stack's base may be held in a word
pub stack-holds : {D : Type 0} (d : Values D) (l : IsLawful d) (blocks : List Counted) → MayHold d blocks B32 (d.place Stack (pos 0))
unfolding some_places
stack-holds d l blocks =
    let v = d.place Stack (pos 0) in
    let at : d.stands v some_places (place_at 0x80000000 (pos 0)) = l.place_stands Stack (pos 0) 0x80000000 some_places some-valid refl in
    record {
      fits = λ n e.
          let same : place_at 0x80000000 (pos 0) ≡ n = l.number_of_alone v n some_places (place_at 0x80000000 (pos 0)) some-valid e at in
          subst (λ (x : ℕ). x < 2 ^ 32) same (omega arith);
      counted = no-count blocks (named (d.reach v)) (λ s e.
          let stack : s ≡ Stack = l.place_names Stack (pos 0) s e in
          false≢true (sym (named-block (d.reach v) s e) ∙ ap has_one_base stack));
    }

-- the value of a fact
pub found-holds : {D : Type 0} (d : Values D) (blocks : List Counted) (a : Area) (low : ℤ) (w : Width) (v : D) (facts : List (Fact D)) → Every (IsWellFact d blocks) facts → found a low w facts ≡ Some v → MayHold d blocks w v
found-holds d blocks a low w v [] h e = absurd (cc)
found-holds {D} d blocks a low w v (f ∷ fs) h e =
    elim (is_at a low w f) as (λ b. is_at a low w f ≡ b → option_map (λ (g : Fact D). g.value) (cond b (Some f) (find (is_at a low w) fs)) ≡ Some v → MayHold d blocks w v) [
      | true ↦ λ at is.
          let rest = and_parts (same_area f.area a) (int_eq f.low low && (bytes_of f.w == bytes_of w)) at in
          let width = and_parts (int_eq f.low low) (bytes_of f.w == bytes_of w) rest.1 in
          let value : f.value ≡ v = cc in
          let held : MayHold d blocks w f.value = subst (λ (x : Width). MayHold d blocks x f.value) (same_width f.w w width.1) h.0.holds in
          subst (λ (x : D). MayHold d blocks w x) value held
      | false ↦ λ at is. found-holds d blocks a low w v fs h.1 is
    ] refl e

-- the same, where the list is given by an equation
pub found-held : {D : Type 0} (d : Values D) (blocks : List Counted) (a : Area) (low : ℤ) (w : Width) (v : D) (facts given : List (Fact D)) → Every (IsWellFact d blocks) facts → given ≡ facts → Some v ≡ found a low w given → MayHold d blocks w v
found-held d blocks a low w v facts given h same e =
    found-holds d blocks a low w v facts h (sym (e ∙ ap (found a low w) same))

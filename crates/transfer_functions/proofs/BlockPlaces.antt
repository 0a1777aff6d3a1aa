-- A place in a block may be held once its region counts the block.
use Rattle.std.proofs.Common.{◌≡◌, ℕ, ◌<◌, ◌^◌, Bool, true, false, cond, List, [], ◌∷◌, map, Option, Some, None, refl, sym, subst}
use Rattle.std.specs.Prelude.{ℤ}
use Rattle.std.proofs.lemmas.Bool.{or_left, or_right}
use Rattle.bit_words.specs.declared.op.Op.TheVariants.{Add}
use Rattle.bit_words.specs.declared.width.Width.TheVariants.{B32}
use Rattle.bit_words.specs.Width.{bits_of}
use Rattle.bit_words.proofs.Laws.{apply-lt}
use Rattle.address_regions.specs.declared.region.Region.{Region}
use Rattle.address_regions.specs.Same.{same_region}
use Rattle.address_regions.proofs.RegionLaws.{same_region-refl}
use Rattle.domain_laws.specs.Laws.{Values, IsLawful}
use Rattle.domain_laws.specs.Reached.{named}
use Rattle.partitioned_memory.specs.declared.fact.Counted.{Counted}
use Rattle.partitioned_memory.specs.Lists.{placed}
use Rattle.partitioned_memory.specs.Held.{count_before, counted_again, counted_more, is_counted, one_block}
use Rattle.partitioned_memory.specs.Well.{HasCount, MayHold}
use Rattle.partitioned_memory.proofs.Kept.{counted_more-keeps}
use Rattle.transfer_functions.proofs.Holds.{eval-counted}

placed-counted : (r : Region) (blocks : List Counted) → is_counted r (placed count_before (one_block r) blocks) ≡ true
placed-counted r [] = or_left (same_region r r) false (same_region-refl r)
placed-counted r (c ∷ cs) =
    elim (count_before c (one_block r)) as (λ b. is_counted r (cond b (c ∷ placed count_before (one_block r) cs) (one_block r ∷ c ∷ cs)) ≡ true) [
      | true ↦ or_right (same_region c.region r) (is_counted r (placed count_before (one_block r) cs)) (placed-counted r cs)
      | false ↦ or_left (same_region r r) (is_counted r (c ∷ cs)) (same_region-refl r)
    ]

-- a region of which there is a block more has a count
own-counted : (r : Region) (blocks : List Counted) → is_counted r (counted_more r blocks) ≡ true
own-counted r blocks =
    elim (is_counted r blocks) as (λ b. is_counted r blocks ≡ b → is_counted r (counted_more r blocks) ≡ true) [
      | true ↦ λ e. counted_more-keeps r r blocks e
      | false ↦ λ e. subst (λ (b : Bool). is_counted r (cond b (map (counted_again r) blocks) (placed count_before (one_block r) blocks)) ≡ true) (sym e) (placed-counted r blocks)
    ] refl

module _ {D : Type 0} (d : Values D) (l : IsLawful d) (r : Region) (blocks : List Counted) where
  place-names : (o : ℤ) (x : Option Region) → named (d.reach (d.place r o)) ≡ x → HasCount (counted_more r blocks) x
  place-names o None e = tt
  place-names o (Some s) e =
      let same : s ≡ r = l.place_names r o s e in
      subst (λ (q : Region). is_counted q (counted_more r blocks) ≡ true) (sym same) (own-counted r blocks)

  number-names : (n : ℕ) → HasCount (counted_more r blocks) (named (d.reach (d.number n)))
  number-names n = subst (HasCount (counted_more r blocks)) (sym (l.number_names n)) tt

  -- some bytes above the first byte of a block
  pub block-holds : (o : ℤ) (n align : ℕ) (p m : D) → p ≡ d.place r o → m ≡ d.number n → MayHold d (counted_more r blocks) B32 (d.eval Add B32 p m align)
  block-holds o n align p m e f =
      let base = subst (λ (q : D). HasCount (counted_more r blocks) (named (d.reach q))) (sym e) (place-names o (named (d.reach (d.place r o))) refl) in
      let moved = subst (λ (q : D). HasCount (counted_more r blocks) (named (d.reach q))) (sym f) (number-names n) in
      record {
        fits = λ k g. let is = l.eval_number Add B32 p m align k g in subst (λ (x : ℕ). x < 2 ^ bits_of B32) (sym is.is) (apply-lt Add B32 is.first is.second);
        counted = eval-counted d l (counted_more r blocks) Add B32 p m align base moved;
      }

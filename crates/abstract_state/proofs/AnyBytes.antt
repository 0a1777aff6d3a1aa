-- Writes of bytes of which nothing is known.
use Rattle.std.proofs.Common.{◌≡◌, ◌∙◌, ℕ, ◌+◌, ◌-◌, Bool, true, false, cond, List, [], ◌∷◌, refl, sym, ap, ℤ, pos, ◌+ℤ◌}
use Rattle.std.specs.Prelude.{fold, ◌-ℤ◌}
use Rattle.memory_map.specs.declared.span.Span.{Span}
use Rattle.memory_map.specs.Image.{Image}
use Rattle.memory_map.specs.Range.{maps_all, may_write, may_write_any}
use Rattle.memory_map.specs.Spans.{runs_of}
use Rattle.address_regions.specs.declared.region.Region.{Region}
use Rattle.domain_laws.specs.declared.reach.Reach.{Reach}
use Rattle.domain_laws.specs.declared.reach.Reach.TheVariants.{Number, Place, Anywhere}
use Rattle.domain_laws.specs.Laws.{Values}
use Rattle.partitioned_memory.specs.declared.area.Area.{Area}
use Rattle.partitioned_memory.specs.declared.area.Area.TheVariants as areas
use Rattle.partitioned_memory.specs.declared.fact.Counted.{Counted}
use Rattle.partitioned_memory.specs.Held.{PartsHeld, after_inside}
use Rattle.abstract_state.specs.declared.stored.Stored.TheVariants.{Done, Faults, Stopped}
use Rattle.abstract_state.specs.Accessing.{StoredPath, after_span, any_put, any_stored, any_stored_by, cause_outside, is_in_fault_zone, lies_in_extent, stored_among, with_region_parts, with_spans}
use Rattle.abstract_state.specs.Expanding.{Path}
use Rattle.abstract_state.proofs.Keeping.{inside-blocks}

-- ---- bytes written in a region

pub any-done : {D : Type 0} (r : Region) (low high : ℤ) (n : ℕ) (p q : Path D) → lies_in_extent r low (high +ℤ pos n) ≡ true → q ≡ with_region_parts r low (high +ℤ pos n) (after_inside (areas.In r) low ((high +ℤ pos n) -ℤ pos 1) p.state.parts) p → (Done, q) ≡ any_put r low high n p
any-done {D} r low high n p q e f =
    let done = with_region_parts r low (high +ℤ pos n) (after_inside (areas.In r) low ((high +ℤ pos n) -ℤ pos 1) p.state.parts) p in
    ap (λ x. (Done, x)) f ∙ sym (ap (λ b. (let o : StoredPath D = cond b (Done, done) (Stopped (cause_outside r), p) in o)) e)

-- ---- a write changes no count of blocks

abbrev blocks_in : {D : Type 0} → StoredPath D → List Counted
blocks_in x = x.1.state.parts.blocks

path-blocks : {D : Type 0} (b : Bool) (x y : StoredPath D) (bs : List Counted) → blocks_in x ≡ bs → blocks_in y ≡ bs → blocks_in (cond b x y) ≡ bs
path-blocks true x y bs h k = h
path-blocks false x y bs h k = k

module _ {D : Type 0} (d : Values D) (image : Image) where
  spans-blocks : (spans : List Span) (h : PartsHeld D) → (fold after_span h spans).blocks ≡ h.blocks
  spans-blocks [] h = refl
  spans-blocks (s ∷ ss) h = spans-blocks ss (after_span h s) ∙ inside-blocks d h areas.Image (pos s.low) ((pos s.low +ℤ pos s.size) -ℤ pos 1)

  among-blocks : (a size : ℕ) (p : Path D) → blocks_in (stored_among d image a size p) ≡ p.state.parts.blocks
  among-blocks a size p =
      path-blocks (is_in_fault_zone a size) _ _ _ refl (path-blocks (maps_all image.segments a size) _ _ _
      (path-blocks (may_write_any image.segments a size) (Done, with_spans (runs_of (may_write image.segments) a size) p) (Faults, p) _
      (spans-blocks (runs_of (may_write image.segments) a size) p.state.parts) refl) refl)

  by-blocks : (reach : Reach) (n : ℕ) (p : Path D) → blocks_in (any_stored_by d image reach n p) ≡ p.state.parts.blocks
  by-blocks (Number low high) n p = among-blocks low ((high + n) - low) p
  by-blocks (Place r low high) n p =
      path-blocks (lies_in_extent r low (high +ℤ pos n))
      (Done, with_region_parts r low (high +ℤ pos n) (after_inside (areas.In r) low ((high +ℤ pos n) -ℤ pos 1) p.state.parts) p) (Stopped (cause_outside r), p) _
      (inside-blocks d p.state.parts (areas.In r) low ((high +ℤ pos n) -ℤ pos 1)) refl
  by-blocks Anywhere n p = refl

  pub any_stored-blocks : (address : D) (n : ℕ) (p : Path D) → blocks_in (any_stored d image address n p) ≡ p.state.parts.blocks
  unfolding any_stored
  any_stored-blocks address n p = by-blocks (d.reach address) n p

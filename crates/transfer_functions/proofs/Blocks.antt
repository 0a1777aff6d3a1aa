-- A store changes no count of blocks.
use Rattle.std.proofs.Common.{◌≡◌, ◌∙◌, ℕ, ◌+◌, ◌-◌, Bool, true, false, ◌==◌, cond, List, [], ◌∷◌, refl}
use Rattle.std.specs.Prelude.{fold, ℤ, pos, ◌+ℤ◌, ◌-ℤ◌, int_lt}
use Rattle.std.specs.Ordering.{int_eq}
use Rattle.bit_words.specs.declared.width.Width.{Width}
use Rattle.bit_words.specs.declared.width.Width.TheVariants.{B8, B16, B32}
use Rattle.bit_words.specs.Width.{bytes_of}
use Rattle.memory_map.specs.declared.span.Span.{Span}
use Rattle.memory_map.specs.Range.{maps_all, may_write, may_write_any, may_write_each}
use Rattle.memory_map.specs.Spans.{runs_of}
use Rattle.memory_map.specs.Image.{Image}
use Rattle.address_regions.specs.declared.region.Region.{Region}
use Rattle.domain_laws.specs.declared.reach.Reach.{Reach}
use Rattle.domain_laws.specs.declared.reach.Reach.TheVariants.{Number, Place, Anywhere}
use Rattle.domain_laws.specs.Laws.{Values}
use Rattle.partitioned_memory.specs.declared.area.Area.{Area}
use Rattle.partitioned_memory.specs.declared.area.Area.TheVariants as areas
use Rattle.partitioned_memory.specs.declared.fact.Counted.{Counted}
use Rattle.partitioned_memory.specs.Areas.{interval_to}
use Rattle.partitioned_memory.specs.Held.{PartsHeld, after_exact, after_inside, after_interval}
use Rattle.abstract_state.specs.declared.stored.Stored.TheVariants.{Done, Faults, Stopped}
use Rattle.abstract_state.specs.Expanding.{Path}
use Rattle.abstract_state.specs.Accessing.{StoredPath, after_span, cause_outside, is_in_fault_zone, lies_in_extent, region_parts, stored, stored_among, stored_at, stored_by, stored_in, touches_fault_zone, with_region_parts, with_spans, with_word}
use Rattle.x86_syntax.specs.declared.instr.Operand.{Operand}
use Rattle.x86_syntax.specs.declared.instr.Operand.TheVariants as operands
use Rattle.transfer_functions.specs.Values.{address_value, operand_written}

abbrev blocks_in : {D : Type 0} → StoredPath D → List Counted
blocks_in x = x.1.state.parts.blocks

part_blocks : {D : Type 0} (b : Bool) (x y : PartsHeld D) (bs : List Counted) → x.blocks ≡ bs → y.blocks ≡ bs → (cond b x y).blocks ≡ bs
part_blocks true x y bs h k = h
part_blocks false x y bs h k = k

path_blocks : {D : Type 0} (b : Bool) (x y : StoredPath D) (bs : List Counted) → blocks_in x ≡ bs → blocks_in y ≡ bs → blocks_in (cond b x y) ≡ bs
path_blocks true x y bs h k = h
path_blocks false x y bs h k = k

inside_blocks : {D : Type 0} (a : Area) (low high : ℤ) (h : PartsHeld D) → (after_inside a low high h).blocks ≡ h.blocks
inside_blocks a low high h = part_blocks (int_lt high low) h (after_interval (interval_to a low high) h) h.blocks refl refl

spans_blocks : {D : Type 0} (spans : List Span) (h : PartsHeld D) → (fold after_span h spans).blocks ≡ h.blocks
spans_blocks [] h = refl
spans_blocks (s ∷ ss) h = spans_blocks ss (after_span h s) ∙ inside_blocks areas.Image (pos s.low) ((pos s.low +ℤ pos s.size) -ℤ pos 1) h

module _ {D : Type 0} (d : Values D) (image : Image) where
  at_blocks : (a : ℕ) (w : Width) (v : D) (p : Path D) → blocks_in (stored_at d image a w v p) ≡ p.state.parts.blocks
  at_blocks a w v p =
      path_blocks (touches_fault_zone a (bytes_of w)) _ _ _ refl (path_blocks (maps_all image.segments a (bytes_of w)) _ _ _
      (path_blocks (may_write_each image.segments a (bytes_of w)) (Done, with_word d image a w v p) (Faults, p) _ refl refl) refl)

  among_blocks : (a size : ℕ) (p : Path D) → blocks_in (stored_among d image a size p) ≡ p.state.parts.blocks
  among_blocks a size p =
      path_blocks (is_in_fault_zone a size) _ _ _ refl (path_blocks (maps_all image.segments a size) _ _ _
      (path_blocks (may_write_any image.segments a size) (Done, with_spans (runs_of (may_write image.segments) a size) p) (Faults, p) _
      (spans_blocks (runs_of (may_write image.segments) a size) p.state.parts) refl) refl)

  in_blocks : (r : Region) (low high : ℤ) (w : Width) (v : D) (p : Path D) → blocks_in (stored_in d image r low high w v p) ≡ p.state.parts.blocks
  in_blocks r low high w v p =
      path_blocks (lies_in_extent r low (high +ℤ pos (bytes_of w)))
      (Done, with_region_parts r low (high +ℤ pos (bytes_of w)) (region_parts d image r low high w v p.state.parts) p) (Stopped (cause_outside r), p) _
      (part_blocks (int_eq low high) (after_exact d (areas.In r) low w v p.state.parts) (after_inside (areas.In r) low ((high +ℤ pos (bytes_of w)) -ℤ pos 1) p.state.parts) _ refl
      (inside_blocks (areas.In r) low ((high +ℤ pos (bytes_of w)) -ℤ pos 1) p.state.parts)) refl

  by_blocks : (reach : Reach) (w : Width) (v : D) (p : Path D) → blocks_in (stored_by d image reach w v p) ≡ p.state.parts.blocks
  by_blocks (Number low high) w v p = path_blocks (low == high) _ _ _ (at_blocks low w v p) (among_blocks low ((high + bytes_of w) - low) p)
  by_blocks (Place r low high) w v p = in_blocks r low high w v p
  by_blocks Anywhere w v p = refl

  pub stored-blocks : (w : Width) (address v : D) (p : Path D) → blocks_in (stored d image w address v p) ≡ p.state.parts.blocks
  unfolding stored
  stored-blocks w address v p = by_blocks (d.reach address) w v p

  pub written-blocks : (o : Operand) (v : D) (p : Path D) → blocks_in (operand_written d image o v p) ≡ p.state.parts.blocks
  written-blocks (operands.Register B8 r) v p = refl
  written-blocks (operands.Register B16 r) v p = refl
  written-blocks (operands.Register B32 r) v p = refl
  written-blocks (operands.Number w n) v p = refl
  written-blocks (operands.Memory w a) v p = stored-blocks w (address_value d image.align a p.state) v p
  written-blocks (operands.Offset o) v p = refl

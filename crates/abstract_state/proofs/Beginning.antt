-- The start state is well.
use Rattle.std.proofs.Common.{◌≡◌, ℕ, Bool, true, false, cond, List, [], Option, None, refl, sym, subst, arith, pos}
use Rattle.std.proofs.lemmas.Int.{ints}
use Rattle.bit_words.specs.declared.width.Width.TheVariants.{B32}
use Rattle.memory_map.specs.Image.{Image, EXIT_PLACE, has_exit_word}
use Rattle.memory_map.specs.Registers.{register}
use Rattle.address_regions.specs.declared.region.Region.TheVariants.{Stack}
use Rattle.domain_laws.specs.Laws.{Values, IsLawful}
use Rattle.partitioned_memory.specs.declared.area.Area.TheVariants.{In}
use Rattle.partitioned_memory.specs.declared.fact.Counted.{Counted}
use Rattle.partitioned_memory.specs.Areas.{IsInside, interval_at}
use Rattle.partitioned_memory.specs.Held.{PartsHeld, after_exact, nothing_held}
use Rattle.partitioned_memory.specs.Well.{IsWell, MayHold}
use Rattle.partitioned_memory.proofs.Holding.{any-holds, number-holds, stack-holds}
use Rattle.memory_map.specs.declared.registers.Regs.{Regs}
use Rattle.abstract_state.specs.declared.flags.Truths.{Truths}
use Rattle.abstract_state.specs.declared.note.Note.{Note}
use Rattle.abstract_state.specs.State.{AreSmall, IsWellState, start_parts, start_registers, start_state}
use Rattle.abstract_state.specs.Laws.{StartIsWell}
use Rattle.abstract_state.proofs.Keeping.{each-register, exact-well, no-note}

pub base-inside : IsInside (interval_at (In Stack) (pos 0) (pos 4))
base-inside = record {
  low = omega (arith, ints);
  end = omega (arith, ints);
  bounded = record { least = omega (arith, ints); greatest = omega (arith, ints); ordered = omega (arith, ints) };
}

module _ {D : Type 0} (d : Values D) where
  pub nothing-well : IsWell d nothing_held
  nothing-well = record { facts_ascend = tt; facts = tt; dirty_ascends = tt; dirty = tt; blocks_ascend = tt; blocks = tt }

module _ {D : Type 0} (d : Values D) (l : IsLawful d) where
  parts-well : (word : Bool) → IsWell d (cond word (after_exact d (In Stack) (pos 0) B32 (d.number EXIT_PLACE) nothing_held) nothing_held)
  parts-well true = exact-well d nothing_held (In Stack) (pos 0) B32 (d.number EXIT_PLACE) base-inside tt (number-holds d l [] B32 EXIT_PLACE (omega arith)) (nothing-well d)
  parts-well false = nothing-well d

  parts-blocks : (word : Bool) → (let h : PartsHeld D = cond word (after_exact d (In Stack) (pos 0) B32 (d.number EXIT_PLACE) nothing_held) nothing_held in h).blocks ≡ []
  parts-blocks true = refl
  parts-blocks false = refl

  registers-hold : (blocks : List Counted) (r : ℕ) → MayHold d blocks B32 (register (start_registers d) r)
  registers-hold blocks =
      let any = any-holds d l blocks B32 in
      each-register (MayHold d blocks B32) (start_registers d) any any any any (stack-holds d l blocks) any any any

  pub start-is_well : StartIsWell d
  unfolding start_state
  start-is_well image = record {
    parts = parts-well (has_exit_word image);
    registers = registers-hold (start_parts d image).blocks;
    small = subst AreSmall (sym (parts-blocks (has_exit_word image))) tt;
    note = no-note;
  }

  -- by the fields
  pub start-fields : (image : Image) (g : Regs D) (t : Truths) (n : Option Note) (h : PartsHeld D) → g ≡ start_registers d → n ≡ None → h ≡ start_parts d image → IsWellState d (record { regs = g; flags = t; note = n; parts = h })
  start-fields image g t n h e f k =
      subst (λ (x : Regs D). IsWellState d (record { regs = x; flags = t; note = n; parts = h })) (sym e)
      (subst (λ (x : Option Note). IsWellState d (record { regs = start_registers d; flags = t; note = x; parts = h })) (sym f)
      (subst (λ (x : PartsHeld D). IsWellState d (record { regs = start_registers d; flags = t; note = None; parts = x })) (sym k)
      (record { parts = parts-well (has_exit_word image); registers = registers-hold (start_parts d image).blocks; small = subst AreSmall (sym (parts-blocks (has_exit_word image))) tt; note = no-note })))

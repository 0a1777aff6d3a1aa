-- A block that is handed out has a count, and what registers are written one after another.
use Rattle.std.proofs.Common.{◌≡◌, ◌∙◌, Bool, true, false, cond, List, [], ◌∷◌, map, Option, None, refl, sym, ap, ℤ}
use Rattle.std.specs.List.{list_any}
use Rattle.std.proofs.lemmas.Bool.{or_left, or_right}
use Rattle.address_regions.specs.declared.region.Region.{Region}
use Rattle.address_regions.specs.Same.{same_region}
use Rattle.address_regions.proofs.RegionLaws.{same_region-refl}
use Rattle.domain_laws.specs.Laws.{Values}
use Rattle.partitioned_memory.specs.declared.fact.Counted.{Counted}
use Rattle.partitioned_memory.specs.Held.{after_forgetting, count_before, counted_again, counted_more, is_counted, one_block}
use Rattle.partitioned_memory.specs.Lists.{placed}
use Rattle.partitioned_memory.proofs.Kept.{counted_more-keeps}
use Rattle.abstract_state.specs.declared.note.Note.{Note}
use Rattle.abstract_state.specs.declared.truth.Truth.TheVariants.{No}
use Rattle.abstract_state.specs.Flags.{unknown_flags}
use Rattle.abstract_state.specs.Notes.{is_of_register, note_unless}
use Rattle.abstract_state.specs.State.{Known, with_flags, with_parts, with_register_value}
use Rattle.memory_map.specs.Registers.{with_register}

-- ---- a block that is handed out has a count

any-placed_here : {X : Type 0} (p : X → Bool) (t : X → X → Bool) (y : X) (xs : List X) → p y ≡ true → list_any p (placed t y xs) ≡ true
any-placed_here p t y [] e = or_left (p y) false e
any-placed_here p t y (x ∷ xs) e =
    elim (t x y) as (λ b. list_any p (cond b (x ∷ placed t y xs) (y ∷ x ∷ xs)) ≡ true) [
      | true ↦ or_right (p x) (list_any p (placed t y xs)) (any-placed_here p t y xs e)
      | false ↦ or_left (p y) (list_any p (x ∷ xs)) e
    ]

pub counted-now : (r : Region) (blocks : List Counted) → is_counted r (counted_more r blocks) ≡ true
counted-now r blocks =
    elim (is_counted r blocks) as (λ b. is_counted r blocks ≡ b → is_counted r (counted_more r blocks) ≡ true) [
      | true ↦ λ e. counted_more-keeps r r blocks e
      | false ↦ λ e.
          ap (λ b. is_counted r (cond b (map (counted_again r) blocks) (placed count_before (one_block r) blocks))) e
          ∙ any-placed_here (λ c. same_region c.region r) count_before (one_block r) blocks (same_region-refl r)
    ] refl

-- ---- registers written one after another

module _ {D : Type 0} (d : Values D) where
  -- what a call leaves free
  pub free-is : (s a b c e : Known D) (high : ℤ) → a ≡ with_parts (after_forgetting high s.parts) s → b ≡ with_register_value 1 d.any a → c ≡ with_register_value 2 d.any b → e ≡ with_flags (unknown_flags No) c
      → e ≡ record { regs = record (s.regs) { ecx = d.any; edx = d.any }; flags = unknown_flags No; note = None; parts = after_forgetting high s.parts }
  unfolding with_register
  free-is s a b c e high forgot first second flags =
      flags ∙ ap (with_flags (unknown_flags No)) (second ∙ ap (with_register_value 2 d.any) (first ∙ ap (with_register_value 1 d.any) forgot))

  abbrev both-noted : Option Note → Option Note
  both-noted n = note_unless (is_of_register 4) (note_unless (is_of_register 0) n)

  -- EAX and then ESP
  pub result-is : (s a b : Known D) (v w : D) → s.note ≡ None → a ≡ with_register_value 0 v s → b ≡ with_register_value 4 w a → b ≡ record s { regs = record (s.regs) { eax = v; esp = w } }
  unfolding with_register
  result-is s a b v w none first second =
      let kept : both-noted s.note ≡ s.note = ap both-noted none ∙ sym none in
      second ∙ ap (with_register_value 4 w) first
      ∙ ap (λ n. (let k : Known D = record { regs = record (s.regs) { eax = v; esp = w }; flags = s.flags; note = n; parts = s.parts } in k)) kept

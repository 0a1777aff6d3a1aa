-- What a condition that is met tells of the word that the note names.
use Rattle.std.specs.Prelude.{ℕ, ◌+◌, ◌-◌, ◌==◌, Bool, false, ◌||◌, nat_le, List, [], ◌∷◌, map, Option, Some, None, is_some, if◌then◌else◌}
use Rattle.std.specs.List.{range_with_len}
use Rattle.std.specs.Ordering.{int_eq}
use Rattle.bit_words.specs.declared.width.Width.TheVariants.{B32}
use Rattle.memory_map.specs.Image.{Image}
use Rattle.x86_syntax.specs.declared.instr.Cond.{Cond}
use Rattle.address_regions.specs.declared.region.Region.TheVariants.{Stack}
use Rattle.domain_laws.specs.declared.reach.Reach.{Reach}
use Rattle.domain_laws.specs.declared.reach.Reach.TheVariants.{Place}
use Rattle.domain_laws.specs.Laws.{Values}
use Rattle.partitioned_memory.specs.declared.area.Area.TheVariants.{In}
use Rattle.partitioned_memory.specs.Held.{after_exact}
use Rattle.abstract_state.specs.declared.note.Note.{Note}
use Rattle.abstract_state.specs.declared.note.Note.TheVariants.{Register, Word}
use Rattle.abstract_state.specs.Accessing.{value_at}
use Rattle.memory_map.specs.Registers.{register, with_register}
use Rattle.abstract_state.specs.Notes.{compared_with}
use Rattle.abstract_state.specs.State.{Known, with_parts}

-- the conditions of which refinement speaks: below, equal, and below or equal
abbrev pub IF_BELOW : ℕ
IF_BELOW = 2

abbrev pub IF_EQUAL : ℕ
IF_EQUAL = 4

abbrev pub IF_AT_MOST : ℕ
IF_AT_MOST = 6

abbrev pub is_one_place : Reach → Bool
is_one_place (Place r low high) = int_eq low high
is_one_place _ = false

module _ {D : Type 0} (d : Values D) where
  -- a value that is a number or one place tells all that a comparison could
  abbrev pub is_settled : D → Bool
  is_settled v = is_some (d.number_of v) || is_one_place (d.reach v)

  -- a value of which one is at most c: each number by itself where they are at most k
  abbrev pub at_most : ℕ → D → ℕ → List D
  at_most k v c = if nat_le (c + 1) k then map d.number (range_with_len 0 (c + 1)) else d.up_to v c ∷ []

  abbrev pub below : ℕ → D → ℕ → List D
  below k v c = if c == 0 then [] else at_most k v (c - 1)

  -- the values to which one that was compared with c is narrowed where a condition is met; None where that tells nothing
  abbrev pub narrowed : ℕ → Cond → D → ℕ → Option (List D)
  narrowed k condition v c =
      if is_settled v then None
      else if condition.0 == IF_EQUAL then Some (d.number c ∷ [])
      else if condition.0 == IF_AT_MOST then Some (at_most k v c)
      else if condition.0 == IF_BELOW then Some (below k v c)
      else None

  -- another value there; flags and note stay, and a value of rank 0 leaves the facts as they are
  abbrev pub with_noted_value : Note → Known D → D → Known D
  with_noted_value (Register r c) s v = record s { regs = with_register s.regs r v }
  with_noted_value (Word o c) s v = if d.rank v == 0 then s else with_parts (after_exact d (In Stack) o B32 v s.parts) s

  abbrev pub narrowed_states : Note → Known D → Option (List D) → List (Known D)
  narrowed_states n s None = s ∷ []
  narrowed_states n s (Some values) = map (with_noted_value n s) values

module _ {D : Type 0} (d : Values D) (image : Image) where
  -- what is known of the noted register or word
  abbrev pub noted_value : Note → Known D → D
  noted_value (Register r c) s = register s.regs r
  noted_value (Word o c) s = value_at d image (In Stack) o B32 s

  abbrev pub refined_by : ℕ → Cond → Option Note → Known D → List (Known D)
  refined_by k condition None s = s ∷ []
  refined_by k condition (Some n) s = narrowed_states d n s (narrowed d k condition (noted_value n s) (compared_with n))

  -- the states in which a condition is met that was unknown
  unfoldable pub refined : ℕ → Cond → Known D → List (Known D)
  refined k condition s = refined_by k condition s.note s

-- Widening: where a location has many rows, values of its states are raised, so that only so many more can come.
use Rattle.std.specs.Prelude.{ℕ, zero, suc, ◌+◌, ◌==◌, ◌≡◌, ◌&&◌, ◌||◌, not, Bool, false, List, [], ◌∷◌, ◌++◌, take, fold, map, filter, find, count_by, nat_lt, unwrap_or, if◌then◌else◌}
use Rattle.std.specs.List.{list_any, range_with_len}
use Rattle.std.specs.Ordering.{int_eq}
use Rattle.bit_words.specs.Width.{bytes_of}
use Rattle.domain_laws.specs.Laws.{Values}
use Rattle.partitioned_memory.specs.declared.fact.Fact.{Fact}
use Rattle.partitioned_memory.specs.Areas.{same_area}
use Rattle.partitioned_memory.specs.Held.{PartsHeld, after_fact}
use Rattle.memory_map.specs.declared.registers.Regs.{Regs}
use Rattle.abstract_state.specs.declared.seen.Holder.{Holder}
use Rattle.abstract_state.specs.declared.seen.Holder.TheVariants.{Register, Bytes}
use Rattle.memory_map.specs.Registers.{register, with_register}
use Rattle.abstract_state.specs.State.{Known}

-- the numbers of the registers
abbrev pub register_numbers : List ℕ
register_numbers = range_with_len 0 8

-- ---- what was seen at a location

abbrev pub same_holder : Holder → Holder → Bool
same_holder (Register a) (Register b) = a == b
same_holder (Bytes s v) (Bytes t w) = same_area s.area t.area && (int_eq s.low t.low && bytes_of v == bytes_of w)
same_holder _ _ = false

abbrev pub holder_of : {D : Type 0} → Fact D → Holder
holder_of f = Bytes (record { area = f.area; low = f.low }) f.w

abbrev pub held_registers : {D : Type 0} → Known D → List (Holder × D)
held_registers s = map (λ r. (Register r, register s.regs r)) register_numbers

-- what a state holds, and where: registers in their order, and then facts in theirs
abbrev pub held : {D : Type 0} → Known D → List (Holder × D)
held s = held_registers s ++ map (λ f. (holder_of f, f.value)) s.parts.facts

module _ {D : Type 0} (d : Values D) where
  abbrev pub is_pair : Holder → D → Holder × D → Bool
  is_pair h v pair = same_holder h pair.0 && d.eq pair.1 v

  -- a value of this rank seen there
  abbrev pub is_rival : Holder → ℕ → Holder × D → Bool
  is_rival h rank pair = same_holder h pair.0 && d.rank pair.1 == rank

  -- a pair more, unless it was seen
  abbrev pub with_pair : List (Holder × D) → Holder × D → List (Holder × D)
  with_pair seen pair = if list_any (is_pair pair.0 pair.1) seen then seen else seen ++ pair ∷ []

  abbrev pub with_pairs : List (Holder × D) → List (Holder × D) → List (Holder × D)
  with_pairs pairs seen = fold with_pair seen pairs

  -- what a state holds taken in, in order
  unfoldable pub seen_with : Known D → List (Holder × D) → List (Holder × D)
  seen_with s seen = with_pairs (held s) seen

  -- what the states at a location hold
  unfoldable pub seen_of : List (Known D) → List (Holder × D)
  seen_of states = fold (λ seen s. seen_with s seen) [] states

  -- a first part of what a state holds taken in
  abbrev pub IsPartlySeen : Known D → List (Holder × D) → List (Holder × D) → Type 0
  IsPartlySeen s before after = (n : ℕ) × (after ≡ with_pairs (take n (held s)) before)

-- ---- widening

module _ {D : Type 0} (d : Values D) (k : ℕ) (seen : List (Holder × D)) where
  -- a value is not raised: it has rank 0, or was seen there, or fewer than k values of its rank were
  abbrev pub stays : Holder → D → Bool
  stays h v = d.rank v == 0 || (list_any (is_pair d h v) seen || nat_lt (count_by (is_rival d h (d.rank v)) seen) k)

  -- so many of v, raise v, raise (raise v), ..
  abbrev pub raises : ℕ → D → List D
  raises zero v = []
  raises (suc times) v = v ∷ raises times (d.raise v)

  -- the first of these that stays; the value of rank 0 does, which comes after no more turns than the rank
  abbrev pub widened_value : Holder → D → D
  widened_value h v = unwrap_or (find (stays h) (raises (d.rank v + 1) v)) d.any

  abbrev pub with_widened_register : Regs D → ℕ → Regs D
  with_widened_register g r = with_register g r (widened_value (Register r) (register g r))

  -- each register by itself
  abbrev pub widened_registers : Regs D → Regs D
  widened_registers g = fold with_widened_register g register_numbers

  abbrev pub widened_fact : Fact D → Fact D
  widened_fact f = record f { value = widened_value (holder_of f) f.value }

  -- each fact by itself; one that is raised to rank 0 goes
  abbrev pub widened_facts : List (Fact D) → List (Fact D)
  widened_facts facts = filter (λ f. not (d.rank f.value == 0)) (map widened_fact facts)

  -- the parts with a fact's value widened, where it changes
  abbrev pub with_widened_fact : PartsHeld D → Fact D → PartsHeld D
  with_widened_fact h f =
      if d.eq (widened_value (holder_of f) f.value) f.value then h
      else after_fact d f.area f.low f.w (widened_value (holder_of f) f.value) h

  -- registers and facts; flags, note, dirty ranges and counts stay
  unfoldable pub widened_state : Known D → Known D
  widened_state s = record s { regs = widened_registers s.regs; parts = record (s.parts) { facts = widened_facts s.parts.facts } }

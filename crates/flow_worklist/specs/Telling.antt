-- The numbers that a state has at some holders, by which the rows of a location that may cover it are found.
use Rattle.std.specs.Prelude.{ℕ, ◌+◌, ◌*◌, ◌%◌, ◌^◌, ◌==◌, List, Option, Some, None, fold, if◌then◌else◌}
use Rattle.memory_map.specs.Registers.{register}
use Rattle.domain_laws.specs.Laws.{Values}
use Rattle.partitioned_memory.specs.Held.{found}
use Rattle.abstract_state.specs.declared.seen.Holder.{Holder}
use Rattle.abstract_state.specs.declared.seen.Holder.TheVariants.{Register, Bytes}
use Rattle.abstract_state.specs.State.{Known}
use Rattle.flow_worklist.specs.declared.told.Told.{Told}
use Rattle.flow_worklist.specs.declared.told.Told.TheVariants.{Numbers, Nothing, Unclear}

-- one number more in a digest, which is a word of 64 bits
abbrev pub digest_with : ℕ → ℕ → ℕ
digest_with digest n = (digest * 0x100000001B3 + n) % 2 ^ 64

-- what a state holds
abbrev pub held_at : {D : Type 0} → Holder → Known D → Option D
held_at (Register r) s = Some (register s.regs r)
held_at (Bytes spot w) s = found spot.area spot.low w s.parts.facts

module _ {D : Type 0} (d : Values D) where
  -- a value and its number, where it has one
  abbrev pub told_number : ℕ → D → Option ℕ → Told
  told_number digest v (Some n) = Numbers (digest_with digest n)
  told_number digest v None = if d.rank v == 0 then Nothing else Unclear

  abbrev pub told_value : ℕ → Option D → Told
  told_value digest (Some v) = told_number digest v (d.number_of v)
  told_value digest None = Nothing

  -- a holder more
  abbrev pub told_more : Known D → Told → Holder → Told
  told_more s (Numbers digest) h = told_value digest (held_at h s)
  told_more s Nothing h = Nothing
  told_more s Unclear h = Unclear

  -- what a state tells of the numbers at holders
  abbrev pub told_at : List Holder → Known D → Told
  told_at holders s = fold (told_more s) (Numbers 0) holders

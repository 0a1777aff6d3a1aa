-- Single flags and the status byte, read with values: beside `x86_semantics/specs/Bits`.
use Rattle.std.specs.Prelude.{ℕ, ◌&&◌, Bool, true, false, if◌then◌else◌}
use Rattle.bit_words.specs.declared.width.Width.TheVariants.{B8}
use Rattle.memory_map.specs.Image.{Image}
use Rattle.memory_map.specs.State.{Flags}
use Rattle.domain_laws.specs.Laws.{Values}
use Rattle.x86_semantics.specs.declared.flag_rule.FlagRule.TheVariants.{Status}
use Rattle.x86_semantics.specs.declared.operation.FlagChange.{FlagChange}
use Rattle.x86_semantics.specs.declared.operation.FlagChange.TheVariants.{FlipCarry, ClearCarry, SetCarry, ClearDirection, SetDirection}
use Rattle.x86_semantics.specs.Bits.{status_byte}
use Rattle.x86_semantics.specs.declared.parts.TheConstants.{AH}
use Rattle.abstract_state.specs.declared.truth.Truth.{Truth}
use Rattle.abstract_state.specs.declared.truth.Truth.TheVariants.{Yes, No, Unknown}
use Rattle.abstract_state.specs.declared.flags.Truths.{Truths}
use Rattle.abstract_state.specs.Truth.{opposite}
use Rattle.abstract_state.specs.State.{Known, with_flags, with_direction}
use Rattle.abstract_state.specs.Expanding.{Expanded, Path, lands}
use Rattle.transfer_functions.specs.Values.{on_state, part, with_part}
use Rattle.transfer_functions.specs.Arithmetic.{with_ruled}

abbrev pub is_yes : Truth → Bool
is_yes Yes = true
is_yes No = false
is_yes Unknown = false

abbrev pub is_known : Truth → Bool
is_known Yes = true
is_known No = true
is_known Unknown = false

-- whether the five flags of the status byte are known
abbrev pub has_status : Truths → Bool
has_status t = is_known t.carry && is_known t.parity && is_known t.adjust && is_known t.zero && is_known t.sign

-- the flags that are known to be set
abbrev pub flags_set : Truths → Flags
flags_set t = record { carry = is_yes t.carry; parity = is_yes t.parity; adjust = is_yes t.adjust; zero = is_yes t.zero; sign = is_yes t.sign; overflow = is_yes t.overflow; direction = is_yes t.direction }

abbrev pub with_carry : {D : Type 0} → Truth → Known D → Known D
with_carry t s = with_flags (record (s.flags) { carry = t }) s

abbrev pub changed : {D : Type 0} → FlagChange → Known D → Known D
changed FlipCarry s = with_carry (opposite s.flags.carry) s
changed ClearCarry s = with_carry No s
changed SetCarry s = with_carry Yes s
changed ClearDirection s = with_direction No s
changed SetDirection s = with_direction Yes s

abbrev pub change_flag : {D : Type 0} → FlagChange → ℕ → Path D → Expanded D
change_flag change next p = lands next (on_state (changed change) p)

module _ {D : Type 0} (d : Values D) where
  -- LAHF: exact where the five flags are known
  abbrev pub status_value : Truths → D
  status_value t = if has_status t then d.number (status_byte (flags_set t)) else d.any

module _ {D : Type 0} (d : Values D) (image : Image) where
  abbrev pub load_status : ℕ → Path D → Expanded D
  load_status next p = lands next (on_state (λ s. with_part d image.align B8 AH (status_value d s.flags) s) p)

  -- SAHF
  abbrev pub store_status : ℕ → Path D → Expanded D
  store_status next p =
      lands next (on_state (λ s. with_ruled d image.align Status B8 (part d image.align B8 AH s) (d.number 0) (d.number 0) s) p)

-- Sums, differences, logic and their comparisons, read with values: beside `x86_semantics/specs/Arithmetic`.
use Rattle.std.specs.Prelude.{ℕ, ◌%◌, ◌==◌, ◌&&◌, Bool, true, false, Option, None, Some, pos, ◌+ℤ◌, if◌then◌else◌}
use Rattle.std.specs.Ordering.{int_eq}
use Rattle.bit_words.specs.declared.width.Width.{Width}
use Rattle.bit_words.specs.declared.width.Width.TheVariants.{B32}
use Rattle.bit_words.specs.declared.op.Op.{Op}
use Rattle.bit_words.specs.declared.op.Op.TheVariants.{Sub, Xor, And, Or}
use Rattle.bit_words.specs.Width.{bits_of}
use Rattle.memory_map.specs.Image.{Image}
use Rattle.address_regions.specs.declared.region.Region.TheVariants.{Stack}
use Rattle.domain_laws.specs.Laws.{Values}
use Rattle.domain_laws.specs.declared.reach.Reach.{Reach}
use Rattle.domain_laws.specs.declared.reach.Reach.TheVariants as reaches
use Rattle.x86_syntax.specs.declared.instr.Operand.{Operand}
use Rattle.x86_syntax.specs.declared.instr.Operand.TheVariants.{Register, Memory}
use Rattle.x86_semantics.specs.declared.flag_rule.FlagRule.{FlagRule}
use Rattle.abstract_state.specs.declared.note.Note.{Note}
use Rattle.abstract_state.specs.declared.note.Note.TheVariants as notes
use Rattle.abstract_state.specs.State.{Known, with_flags, with_note}
use Rattle.abstract_state.specs.Accessing.{lies_in_extent}
use Rattle.abstract_state.specs.Expanding.{Expanded, Path, lands}
use Rattle.transfer_functions.specs.Values.{address_value, after_pair, on_state, operand_value, pair_of, part, value_of_truth, writing}
use Rattle.transfer_functions.specs.Flags.{ruled_truths}

-- the same register of the same width
abbrev pub is_same_register : Operand → Operand → Bool
is_same_register (Register v q) (Register w r) = (bits_of v == bits_of w) && (q == r)
is_same_register _ _ = false

-- the operators of SUB, SBB, CMP and XOR: a register with itself gives 0, and is read as 0
abbrev pub cancels : Op → Bool
cancels Sub = true
cancels Xor = true
cancels op = false

-- the operators of AND, OR and TEST: a register with itself gives the register
abbrev pub keeps : Op → Bool
keeps And = true
keeps Or = true
keeps op = false

module _ {D : Type 0} (d : Values D) (align : ℕ) where
  -- an operator at two operands with these values
  abbrev pub combined : Op → Width → Operand → Operand → D → D → D
  combined op w left right a b = if keeps op && is_same_register left right then a else d.eval op w a b align

  -- the operator twice: with the second operand, and with CF
  abbrev pub carried : Op → Width → D → D → Known D → D
  carried op w a b s = d.eval op w (d.eval op w a b align) (value_of_truth d s.flags.carry) align

  -- the state with its flags by a rule; one of the six is written
  abbrev pub with_ruled : FlagRule → Width → D → D → D → Known D → Known D
  with_ruled rule w a b r s = with_flags (ruled_truths d align rule w a b r s.flags) s

  -- ---- the note of a comparison

  -- the note of a word with a number, where it is one
  abbrev pub note_with : (ℕ → Note) → Option ℕ → Option Note
  note_with note None = None
  note_with note (Some c) = Some (note c)

  -- a word of the stack, where the address is one place whose four bytes are in the extent
  abbrev pub noted_place : Reach → Option ℕ → Option Note
  noted_place (reaches.Place Stack low high) c =
      if int_eq low high && lies_in_extent Stack low (low +ℤ pos 4) then note_with (notes.Word low) c else None
  noted_place reach c = None

  -- a comparison of this operand with a number, where it is one
  abbrev pub noted : Operand → Option ℕ → Known D → Option Note
  noted (Register B32 r) c s = note_with (notes.Register (r % 8)) c
  noted (Memory B32 a) c s = noted_place (d.reach (address_value d align a s)) c
  noted _ c s = None

  -- what an operand is compared with; a register has its own value also where it is compared with itself
  abbrev pub compared_with : Operand → D → Known D → D
  compared_with (Register w r) b s = part d align w r s
  compared_with _ b s = b

  -- CMP with a number, and TEST of a register with itself, which compares it with 0
  abbrev pub note_of : Op → Operand → Operand → D → Known D → Option Note
  note_of Sub left right b s = noted left (d.number_of (compared_with right b s)) s
  note_of And left right b s = if is_same_register left right then noted left (Some 0) s else None
  note_of _ left right b s = None

module _ {D : Type 0} (d : Values D) (image : Image) where
  -- both operands, where they can be read: a register that an operator cancels with itself is read as 0
  abbrev pub operand_values : Op → Operand → Operand → Known D → Option (D × D)
  operand_values op left right s =
      if cancels op && is_same_register left right then Some (d.number 0, d.number 0)
      else pair_of (operand_value d image left s) (operand_value d image right s)

  abbrev pub reading_both : Op → Path D → Operand → Operand → (D → D → Expanded D) → Expanded D
  reading_both op p left right k = after_pair p.writes (operand_values op left right p.state) k

  -- the flags of a rule, and the next instruction
  abbrev pub flagged : FlagRule → Width → D → D → D → ℕ → Path D → Expanded D
  flagged rule w a b r next p = lands next (on_state (with_ruled d image.align rule w a b r) p)

  abbrev pub combine : Op → FlagRule → Width → Operand → Operand → ℕ → Path D → Expanded D
  combine op rule w to from next p =
      reading_both op p to from (λ a b.
      writing d image p to (combined d image.align op w to from a b) (λ q. flagged rule w a b (combined d image.align op w to from a b) next q))

  abbrev pub carry : Op → FlagRule → Width → Operand → Operand → ℕ → Path D → Expanded D
  carry op rule w to from next p =
      reading_both op p to from (λ a b.
      writing d image p to (carried d image.align op w a b p.state) (λ q. flagged rule w a b (carried d image.align op w a b p.state) next q))

  -- the flags alone, and the note of the comparison
  abbrev pub compared : Op → FlagRule → Width → Operand → Operand → D → D → Known D → Known D
  compared op rule w left right a b s =
      with_note (note_of d image.align op left right b s) (with_ruled d image.align rule w a b (combined d image.align op w left right a b) s)

  abbrev pub compare : Op → FlagRule → Width → Operand → Operand → ℕ → Path D → Expanded D
  compare op rule w left right next p =
      reading_both op p left right (λ a b. lands next (on_state (compared op rule w left right a b) p))

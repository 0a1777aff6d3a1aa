-- Bits tested and changed, and bits found, read with values: beside `x86_semantics/specs/BitTests`.
use Rattle.std.specs.Prelude.{ℕ, ◌%◌, Option, None, Some}
use Rattle.bit_words.specs.declared.width.Width.{Width}
use Rattle.bit_words.specs.declared.op.Op.{Op}
use Rattle.bit_words.specs.declared.op.Op.TheVariants.{And, Or, Xor, Not, Shl, Eq}
use Rattle.bit_words.specs.Width.{bits_of}
use Rattle.memory_map.specs.Image.{Image}
use Rattle.domain_laws.specs.Laws.{Values}
use Rattle.x86_syntax.specs.declared.instr.Operand.{Operand}
use Rattle.x86_semantics.specs.declared.flag_rule.FlagRule.TheVariants.{BitTest, BitScan}
use Rattle.x86_semantics.specs.declared.operation.BitChange.{BitChange}
use Rattle.x86_semantics.specs.declared.operation.BitChange.TheVariants.{KeepBit, SetBit, ClearBit, FlipBit}
use Rattle.abstract_state.specs.declared.truth.Truth.{Truth}
use Rattle.abstract_state.specs.declared.truth.Truth.TheVariants.{Yes, No, Unknown}
use Rattle.abstract_state.specs.Expanding.{Expanded, Path}
use Rattle.abstract_state.specs.State.{Known}
use Rattle.transfer_functions.specs.Values.{on_state, part, with_part, reading}
use Rattle.transfer_functions.specs.Flags.{by_operator}
use Rattle.transfer_functions.specs.Arithmetic.{flagged}

module _ {D : Type 0} (d : Values D) (align : ℕ) where
  -- the bit at a place alone, which counts modulo the width; any where the place is unknown
  abbrev pub bit_value : Width → Option ℕ → D
  bit_value w None = d.any
  bit_value w (Some i) = d.eval Shl w (d.number 1) (d.number (i % bits_of w)) align

  -- a value with a bit set, cleared or flipped
  abbrev pub bit_changed : BitChange → Width → D → D → D
  bit_changed KeepBit w a bit = a
  bit_changed SetBit w a bit = d.eval Or w a bit align
  bit_changed ClearBit w a bit = d.eval And w a (d.eval Not w bit (d.number 0) align) align
  bit_changed FlipBit w a bit = d.eval Xor w a bit align

  -- the state with a bit of a register changed; BT writes none
  abbrev pub with_bit : BitChange → Width → ℕ → D → Known D → Known D
  with_bit KeepBit w r bit s = s
  with_bit SetBit w r bit s = with_part d align w r (bit_changed SetBit w (part d align w r s) bit) s
  with_bit ClearBit w r bit s = with_part d align w r (bit_changed ClearBit w (part d align w r s) bit) s
  with_bit FlipBit w r bit s = with_part d align w r (bit_changed FlipBit w (part d align w r s) bit) s

  -- the place of the bit that is looked for, where it is certain that one is set; else any
  abbrev pub found_bit : Truth → Op → Width → D → D
  found_bit No op w b = d.eval op w b (d.number 0) align
  found_bit Yes op w b = d.any
  found_bit Unknown op w b = d.any

module _ {D : Type 0} (d : Values D) (image : Image) where
  abbrev pub test_bit : BitChange → Width → ℕ → Operand → ℕ → Path D → Expanded D
  test_bit change w r index next p =
      reading d image p index (λ v.
      flagged d image BitTest w (part d image.align w r p.state) v (d.number 0) next
      (on_state (with_bit d image.align change w r (bit_value d image.align w (d.number_of v))) p))

  abbrev pub find_bit : Op → Width → ℕ → Operand → ℕ → Path D → Expanded D
  find_bit op w r from next p =
      reading d image p from (λ b.
      let place = found_bit d image.align (by_operator d image.align Eq w b (d.number 0)) op w b in
      flagged d image BitScan w b (d.number 0) place next (on_state (with_part d image.align w r place) p))

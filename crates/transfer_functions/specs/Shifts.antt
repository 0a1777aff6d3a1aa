-- Shifts and rotations, read with values: beside `x86_semantics/specs/Shifts`. A count is taken modulo 32 where it is a number.
use Rattle.std.specs.Prelude.{ℕ, ◌-◌, ◌%◌, ◌==◌, nat_lt, Bool, false, if◌then◌else◌, Option, None, Some}
use Rattle.bit_words.specs.declared.width.Width.{Width}
use Rattle.bit_words.specs.declared.op.Op.{Op}
use Rattle.bit_words.specs.declared.op.Op.TheVariants.{Or}
use Rattle.bit_words.specs.Width.{bits_of}
use Rattle.memory_map.specs.Image.{Image}
use Rattle.domain_laws.specs.Laws.{Values}
use Rattle.x86_syntax.specs.declared.instr.Operand.{Operand}
use Rattle.x86_syntax.specs.declared.instr.Operand.TheVariants.{Memory}
use Rattle.x86_semantics.specs.declared.flag_rule.FlagRule.{FlagRule}
use Rattle.abstract_state.specs.declared.flags.Truths.{Truths}
use Rattle.abstract_state.specs.Flags.{unknown_flags}
use Rattle.abstract_state.specs.State.{with_flags}
use Rattle.abstract_state.specs.Expanding.{Expanded, Path, lands}
use Rattle.transfer_functions.specs.Values.{on_state, part, reading, writing}
use Rattle.transfer_functions.specs.Flags.{ruled_truths}
use Rattle.transfer_functions.specs.Arithmetic.{flagged}

-- a count is a number that is 0 modulo 32
abbrev pub is_no_shift : Option ℕ → Bool
is_no_shift None = false
is_no_shift (Some n) = n % 32 == 0

-- a count is a number that is below the width, modulo 32
abbrev pub is_below : Width → Option ℕ → Bool
is_below w None = false
is_below w (Some n) = nat_lt (n % 32) (bits_of w)

module _ {D : Type 0} (d : Values D) (align : ℕ) where
  -- by a number of places; any where that is unknown
  abbrev pub shifted : Op → Width → D → Option ℕ → D
  shifted op w a None = d.any
  shifted op w a (Some n) = d.eval op w a (d.number (n % 32)) align

  -- the bits of a moved by n, and behind them those of b
  abbrev pub or_of_shifts : Op → Op → Width → D → D → ℕ → D
  or_of_shifts op other w a b n = d.eval Or w (d.eval op w a (d.number n) align) (d.eval other w b (d.number (bits_of w - n)) align) align

  -- by a known count below the width; any by another
  abbrev pub double_shifted : Op → Op → Width → D → D → Option ℕ → D
  double_shifted op other w a b None = d.any
  double_shifted op other w a b (Some n) = if nat_lt (n % 32) (bits_of w) then or_of_shifts op other w a b (n % 32) else d.any

  -- and no flag is known
  abbrev pub double_truths : FlagRule → Width → D → D → D → Truths → Truths
  double_truths rule w a v r t = if is_below w (d.number_of v) then ruled_truths d align rule w a v r t else unknown_flags t.direction

module _ {D : Type 0} (d : Values D) (image : Image) where
  -- by 0: an operand of memory is stored to with its old value, a register is left as it is, and no flag changes
  abbrev pub unshifted : Operand → D → ℕ → Path D → Expanded D
  unshifted (Memory w address) a next p = writing d image p (Memory w address) a (λ q. lands next q)
  unshifted to a next p = lands next p

  -- of a by v
  abbrev pub shift_by : Op → FlagRule → Width → Operand → D → D → ℕ → Path D → Expanded D
  shift_by op rule w to a v next p =
      if is_no_shift (d.number_of v) then unshifted to a next p
      else writing d image p to (shifted d image.align op w a (d.number_of v)) (λ q. flagged d image rule w a v (shifted d image.align op w a (d.number_of v)) next q)

  abbrev pub shift : Op → FlagRule → Width → Operand → Operand → ℕ → Path D → Expanded D
  shift op rule w to count next p = reading d image p to (λ a. reading d image p count (λ v. shift_by op rule w to a v next p))

  -- ---- SHLD and SHRD

  -- of a by v, with the bits of b
  abbrev pub double_shift_by : Op → Op → FlagRule → Width → Operand → D → D → D → ℕ → Path D → Expanded D
  double_shift_by op other rule w to a b v next p =
      if is_no_shift (d.number_of v) then unshifted to a next p
      else
      let r = double_shifted d image.align op other w a b (d.number_of v) in
      writing d image p to r (λ q. lands next (on_state (λ s. with_flags (double_truths d image.align rule w a v r s.flags) s) q))

  abbrev pub double_shift : Op → Op → FlagRule → Width → Operand → ℕ → Operand → ℕ → Path D → Expanded D
  double_shift op other rule w to r count next p =
      reading d image p to (λ a. reading d image p count (λ v. double_shift_by op other rule w to a (part d image.align w r p.state) v next p))

-- What is known of the flags after an instruction: the rules of `x86_semantics`, read with values. A flag that is free is unknown.
use Rattle.std.specs.Prelude.{ℕ, ◌-◌, ◌*◌, ◌%◌, ◌^◌, Bool, true, false, not, nat_lt, nat_le, ◌==◌, if◌then◌else◌, Option, None, Some, ◌*ℤ◌}
use Rattle.bit_words.specs.declared.width.Width.{Width}
use Rattle.bit_words.specs.declared.op.Op.{Op}
use Rattle.bit_words.specs.declared.op.Op.TheVariants.{Eq, Ult}
use Rattle.bit_words.specs.Width.{bits_of, cut, signed_of, is_signed}
use Rattle.bit_words.specs.Flags.{FlagBits, sum_flags, difference_flags, has_even_parity, has_sign}
use Rattle.domain_laws.specs.Laws.{Values}
use Rattle.x86_semantics.specs.declared.flag_rule.FlagRule.{FlagRule}
use Rattle.x86_semantics.specs.declared.flag_rule.FlagRule.TheVariants.{Sum, SumWithCarry, Difference, DifferenceWithBorrow, Increment, Decrement, Negation, Logic, ShiftLeft, ShiftRight, ShiftRightSigned, ShiftRightDouble, RotateLeft, RotateRight, Product, SignedProduct, BitTest, BitScan, Status}
use Rattle.x86_semantics.specs.FlagRules.{is_set}
use Rattle.abstract_state.specs.declared.truth.Truth.{Truth}
use Rattle.abstract_state.specs.declared.truth.Truth.TheVariants.{Yes, No, Unknown}
use Rattle.abstract_state.specs.declared.flags.Truths.{Truths}
use Rattle.abstract_state.specs.Flags.{unknown_flags}
use Rattle.abstract_state.specs.Truth.{truth_of, truth_of_number, opposite, differ}

-- a test of a number, where it is known
abbrev pub known_of : (ℕ → Bool) → Option ℕ → Truth
known_of test None = Unknown
known_of test (Some x) = truth_of (test x)

-- a test of two operands and a carry, where all three are known
abbrev pub known_of_all : (ℕ → ℕ → Bool → Bool) → Option ℕ → Option ℕ → Truth → Truth
known_of_all test (Some x) (Some y) Yes = truth_of (test x y true)
known_of_all test (Some x) (Some y) No = truth_of (test x y false)
known_of_all test (Some x) (Some y) Unknown = Unknown
known_of_all test (Some x) None carry = Unknown
known_of_all test None b carry = Unknown

-- CF of a shift or rotation is free where the count is the width or more, and OF but for a count of 1
abbrev pub below_width : Width → ℕ → Truth → Truth
below_width w c carry = if nat_lt c (bits_of w) then carry else Unknown

abbrev pub by_one : ℕ → Truth → Truth
by_one c overflow = if c == 1 then overflow else Unknown

-- the flags after a shift or rotation: of a count that is known, taken modulo 32, where 0 changes nothing, and of an unknown one
abbrev pub counted : Option ℕ → (ℕ → Truths) → Truths → Truths → Truths
counted None known unknown t = unknown
counted (Some n) known unknown t = if n % 32 == 0 then t else known (n % 32)

-- a rotation changes CF and OF alone
abbrev pub rotated : Truth → Truth → Truths → Truths
rotated carry overflow t = record t { carry = carry; overflow = overflow }

-- ROL to r: CF is the bit that came to the bottom, OF whether it differs from the top bit
abbrev pub rotated_left : Width → ℕ → Option ℕ → Truths → Truths
rotated_left w c r t =
    let carry = known_of (λ x. is_set x 0) r in rotated (below_width w c carry) (by_one c (differ (known_of (has_sign w) r) carry)) t

-- ROR to r: CF is the bit that came to the top, OF whether the two top bits differ
abbrev pub rotated_right : Width → ℕ → Option ℕ → Truths → Truths
rotated_right w c r t =
    let carry = known_of (has_sign w) r in rotated (below_width w c carry) (by_one c (differ carry (known_of (λ x. is_set x (bits_of w - 2)) r))) t

-- CF and OF alike, by whether a product has no room; the other four are free
abbrev pub of_product : Truth → Truths → Truths
of_product large t = record (unknown_flags t.direction) { carry = large; overflow = large }

-- BT, BTS, BTR and BTC: CF is the bit at a place, which counts modulo the width; ZF is kept, and the other four are free
abbrev pub of_bit_test : Width → Option ℕ → Option ℕ → Truths → Truths
of_bit_test w a place t =
    record (unknown_flags t.direction) { carry = known_of_all (λ x i c. is_set (cut w x) (i % bits_of w)) a place No; zero = t.zero }

-- BSF and BSR: ZF as given; the other five are free
abbrev pub of_bit_scan : Truth → Truths → Truths
of_bit_scan zero t = record (unknown_flags t.direction) { zero = zero }

-- SAHF: the bits 0, 2, 4, 6 and 7 of AH
abbrev pub of_status : Option ℕ → Truths → Truths
of_status a t = record {
  carry = known_of (λ x. is_set x 0) a;
  parity = known_of (λ x. is_set x 2) a;
  adjust = known_of (λ x. is_set x 4) a;
  zero = known_of (λ x. is_set x 6) a;
  sign = known_of (λ x. is_set x 7) a;
  overflow = t.overflow;
  direction = t.direction;
}

-- whether the top bits of a number and its result differ
abbrev pub sign_changed : Width → Option ℕ → Option ℕ → Truth
sign_changed w a r = differ (known_of (has_sign w) r) (known_of (λ x. has_sign w (cut w x)) a)

module _ {D : Type 0} (d : Values D) (align : ℕ) where
  -- by an operator's value: whether it is not 0
  abbrev pub by_operator : Op → Width → D → D → Truth
  by_operator op w a b = truth_of_number (d.number_of (d.eval op w a b align))

  -- ZF by the result against 0, SF and PF by the result where it is a number, CF, AF and OF as given
  abbrev pub of_result : Width → D → Truth → Truth → Truth → Truths → Truths
  of_result w r carry adjust overflow t = record {
    carry = carry;
    parity = known_of has_even_parity (d.number_of r);
    adjust = adjust;
    zero = by_operator Eq w r (d.number 0);
    sign = known_of (has_sign w) (d.number_of r);
    overflow = overflow;
    direction = t.direction;
  }

  -- CF, AF and OF by both operands and a carry
  abbrev pub of_operands : (Width → ℕ → ℕ → Bool → FlagBits) → Width → Option ℕ → Option ℕ → Truth → D → Truths → Truths
  of_operands flags w a b carry r t =
      of_result w r
      (known_of_all (λ x y c. (flags w x y c).carry) a b carry)
      (known_of_all (λ x y c. (flags w x y c).adjust) a b carry)
      (known_of_all (λ x y c. (flags w x y c).overflow) a b carry) t

  -- SHL and SHLD of a by c to r: CF is the last bit out at the top, OF whether the top bit changed; AF is free
  abbrev pub shifted_left : Width → Option ℕ → ℕ → D → Truths → Truths
  shifted_left w a c r t =
      let carry = known_of (λ x. is_set (cut w x) (bits_of w - c)) a in
      of_result w r (below_width w c carry) Unknown (by_one c (differ (known_of (has_sign w) (d.number_of r)) carry)) t

  -- SHR, SAR and SHRD of a by c to r: CF is the last bit out at the bottom, OF as given; AF is free
  abbrev pub shifted_right : Width → Option ℕ → ℕ → D → Truth → Truths → Truths
  shifted_right w a c r overflow t = of_result w r (below_width w c (known_of (λ x. is_set (cut w x) (c - 1)) a)) Unknown (by_one c overflow) t

  -- the flags of a rule, for the operands a and b, the result r and the flags before; b is the count of a shift, not yet taken modulo 32
  unfoldable pub ruled_truths : FlagRule → Width → D → D → D → Truths → Truths
  ruled_truths Sum w a b r t = of_operands sum_flags w (d.number_of a) (d.number_of b) No r t
  ruled_truths SumWithCarry w a b r t = of_operands sum_flags w (d.number_of a) (d.number_of b) t.carry r t
  ruled_truths Difference w a b r t = record (of_operands difference_flags w (d.number_of a) (d.number_of b) No r t) { carry = by_operator Ult w a b; zero = by_operator Eq w a b }
  ruled_truths DifferenceWithBorrow w a b r t = of_operands difference_flags w (d.number_of a) (d.number_of b) t.carry r t
  ruled_truths Increment w a b r t = record (of_operands sum_flags w (d.number_of a) (Some 1) No r t) { carry = t.carry }
  ruled_truths Decrement w a b r t = record (of_operands difference_flags w (d.number_of a) (Some 1) No r t) { carry = t.carry }
  ruled_truths Negation w a b r t = record (of_operands difference_flags w (Some 0) (d.number_of a) No r t) { carry = opposite (by_operator Eq w a (d.number 0)) }
  ruled_truths Logic w a b r t = of_result w r No Unknown No t
  ruled_truths ShiftLeft w a b r t = counted (d.number_of b) (λ c. shifted_left w (d.number_of a) c r t) (unknown_flags t.direction) t
  ruled_truths ShiftRight w a b r t = counted (d.number_of b) (λ c. shifted_right w (d.number_of a) c r (known_of (λ x. has_sign w (cut w x)) (d.number_of a)) t) (unknown_flags t.direction) t
  ruled_truths ShiftRightSigned w a b r t = counted (d.number_of b) (λ c. shifted_right w (d.number_of a) c r No t) (unknown_flags t.direction) t
  ruled_truths ShiftRightDouble w a b r t = counted (d.number_of b) (λ c. shifted_right w (d.number_of a) c r (sign_changed w (d.number_of a) (d.number_of r)) t) (unknown_flags t.direction) t
  ruled_truths RotateLeft w a b r t = counted (d.number_of b) (λ c. rotated_left w c (d.number_of r) t) (rotated Unknown Unknown t) t
  ruled_truths RotateRight w a b r t = counted (d.number_of b) (λ c. rotated_right w c (d.number_of r) t) (rotated Unknown Unknown t) t
  ruled_truths Product w a b r t = of_product (known_of_all (λ x y c. nat_le (2 ^ bits_of w) (cut w x * cut w y)) (d.number_of a) (d.number_of b) No) t
  ruled_truths SignedProduct w a b r t = of_product (known_of_all (λ x y c. not (is_signed w (signed_of w x *ℤ signed_of w y))) (d.number_of a) (d.number_of b) No) t
  ruled_truths BitTest w a b r t = of_bit_test w (d.number_of a) (d.number_of b) t
  ruled_truths BitScan w a b r t = of_bit_scan (by_operator Eq w a (d.number 0)) t
  ruled_truths Status w a b r t = of_status (d.number_of a) t

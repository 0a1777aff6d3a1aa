-- What is known of the flags after an instruction is right, under every choice of the free ones.
use Rattle.std.proofs.Common.{◌≡◌, ℕ, ◌-◌, ◌*◌, ◌%◌, ◌^◌, Bool, true, false, not, ◌==◌, cond, Option, Some, None, refl, sym, ◌∙◌, ap, subst, arith}
use Rattle.std.specs.Prelude.{⊤, nat_lt, nat_le, ◌*ℤ◌}
use Rattle.std.specs.Bool.{xor}
use Rattle.address_regions.specs.Places.{Places, IsValid}
use Rattle.bit_words.specs.declared.width.Width.{Width}
use Rattle.bit_words.specs.declared.op.Op.TheVariants.{Add, Sub, Neg, Eq, Ult}
use Rattle.bit_words.specs.declared.flags.Flags.{Flags as FlagSet}
use Rattle.bit_words.specs.Flags.{FlagBits, flags_by, sum_flags, sum_of, difference_flags, difference_of, logic_flags, adjust_of, has_even_parity, has_sign}
use Rattle.bit_words.specs.Operators.{apply_op, one_if}
use Rattle.bit_words.specs.Width.{bits_of, cut, signed_of, is_signed}
use Rattle.bit_words.proofs.Laws.{cut_fit}
use Rattle.bit_words.proofs.FlagLaws.{apply-Add, apply-Sub, add-add_carry, sub-sub_borrow}
use Rattle.domain_laws.specs.Laws.{Values, IsLawful}
use Rattle.memory_map.specs.declared.choice.Choice.{Choice}
use Rattle.memory_map.specs.State.{Flags}
use Rattle.x86_semantics.specs.declared.flag_rule.FlagRule.{FlagRule}
use Rattle.x86_semantics.specs.declared.flag_rule.FlagRule.TheVariants.{Sum, SumWithCarry, Difference, DifferenceWithBorrow, Increment, Decrement, Negation, Logic, ShiftLeft, ShiftRight, ShiftRightSigned, ShiftRightDouble, RotateLeft, RotateRight, Product, SignedProduct, BitTest, BitScan, Status}
use Rattle.x86_semantics.specs.FlagRules.{flags_after, chosen, ruled, is_set, with_status, freed, no_flags, carry_flag, adjust_flag, overflow_flag, status_flags, shift_left_flags, shift_right_flags, changes_sign, rotate_left_flags, rotate_right_flags, unless_zero}
use Rattle.x86_semantics.specs.Shifts.{double_flags, shifted_flags, freed_if}
use Rattle.abstract_state.specs.declared.truth.Truth.{Truth}
use Rattle.abstract_state.specs.declared.truth.Truth.TheVariants.{No, Unknown}
use Rattle.abstract_state.specs.declared.flags.Truths.{Truths}
use Rattle.abstract_state.specs.Truth.{StandsFor, differ}
use Rattle.abstract_state.specs.Flags.{FlagsStand, unknown_flags}
use Rattle.abstract_state.proofs.Logic.{differ_stands, opposite_stands}
use Rattle.transfer_functions.specs.Flags.{ruled_truths, known_of, by_operator, of_result, of_operands, counted, below_width, by_one, rotated, sign_changed}
use Rattle.transfer_functions.specs.Shifts.{double_truths, is_below}
use Rattle.transfer_functions.proofs.Words.{zero_fits, eq_zero, difference_equal, difference_carry, negation_carry, negation_is}
use Rattle.transfer_functions.proofs.Knowing.{KnownWord, Tells, number_known, known_stands, all_stand, number_tells, given_tells, operator_stands}

as_is : (t : Truth) (a b : Bool) → a ≡ b → StandsFor t b → StandsFor t a
as_is t a b e h = subst (StandsFor t) (sym e) h

-- which number is the result of the operands x and y and the flags before, where a rule's flags speak of it
abbrev pub IsResult : FlagRule → Width → ℕ → ℕ → Flags → ℕ → Type 0
IsResult Sum w x y f z = z ≡ apply_op Add w x y
IsResult SumWithCarry w x y f z = z ≡ apply_op Add w (apply_op Add w x y) (one_if f.carry)
IsResult Difference w x y f z = z ≡ apply_op Sub w x y
IsResult DifferenceWithBorrow w x y f z = z ≡ apply_op Sub w (apply_op Sub w x y) (one_if f.carry)
IsResult Increment w x y f z = z ≡ apply_op Add w x 1
IsResult Decrement w x y f z = z ≡ apply_op Sub w x 1
IsResult Negation w x y f z = z ≡ apply_op Neg w x y
IsResult rule w x y f z = ⊤

-- the rules of shifts and rotations
abbrev pub is_counted : FlagRule → Bool
is_counted ShiftLeft = true
is_counted ShiftRight = true
is_counted ShiftRightSigned = true
is_counted ShiftRightDouble = true
is_counted RotateLeft = true
is_counted RotateRight = true
is_counted rule = false

-- the rules of SHLD and SHRD
abbrev pub is_double : FlagRule → Bool
is_double ShiftLeft = true
is_double ShiftRightDouble = true
is_double rule = false

module _ {D : Type 0} (d : Values D) (l : IsLawful d) (p : Places) (valid : IsValid p) where
  -- ---- each kind of flag

  pub zero_stands : (w : Width) (r : D) (z : ℕ) → KnownWord d p w r z → StandsFor (by_operator d p.align Eq w r (d.number 0)) (z == 0)
  zero_stands w r z k = as_is _ _ _ (sym (eq_zero w z k.fits)) (operator_stands d l p valid Eq w r (d.number 0) z 0 k (number_known d l p valid w 0 (zero_fits w)))

  -- ZF, SF and PF by a result
  result_stands : (w : Width) (r : D) (z : ℕ) (carry adjust overflow : Truth) (c a o : Bool) (t : Truths) (f : Flags) → KnownWord d p w r z
      → StandsFor carry c → StandsFor adjust a → StandsFor overflow o → FlagsStand t f
      → FlagsStand (of_result d p.align w r carry adjust overflow t) (with_status (flags_by w z c a o) f)
  result_stands w r z carry adjust overflow c a o t f k hc ha ho before = record {
    carry = hc;
    parity = known_stands d l p valid has_even_parity r z k.stands;
    adjust = ha;
    zero = zero_stands w r z k;
    sign = known_stands d l p valid (has_sign w) r z k.stands;
    overflow = ho;
    direction = before.direction;
  }

  -- all six by both operands and a carry
  operands_stand : (flags : Width → ℕ → ℕ → Bool → FlagBits) (w : Width) (a b : Option ℕ) (carry : Truth) (r : D) (x y z : ℕ) (c : Bool) (t : Truths) (f : Flags)
      → flags w x y c ≡ flags_by w z (flags w x y c).carry (flags w x y c).adjust (flags w x y c).overflow
      → Tells d l p valid a x → Tells d l p valid b y → KnownWord d p w r z → StandsFor carry c → FlagsStand t f
      → FlagsStand (of_operands d p.align flags w a b carry r t) (with_status (flags w x y c) f)
  operands_stand flags w a b carry r x y z c t f is h k known s before =
      let P : FlagBits → Type 0 = λ g. FlagsStand (of_operands d p.align flags w a b carry r t) (with_status g f) in
      subst P (sym is) (result_stands w r z _ _ _ _ _ _ t f known
      (all_stand d l p valid (λ m n b. (flags w m n b).carry) a b carry x y c h k s)
      (all_stand d l p valid (λ m n b. (flags w m n b).adjust) a b carry x y c h k s)
      (all_stand d l p valid (λ m n b. (flags w m n b).overflow) a b carry x y c h k s) before)

  sum_stands : (w : Width) (a b : Option ℕ) (carry : Truth) (r : D) (x y z : ℕ) (c : Bool) (t : Truths) (f : Flags) → z ≡ sum_of w x y c
      → Tells d l p valid a x → Tells d l p valid b y → KnownWord d p w r z → StandsFor carry c → FlagsStand t f
      → FlagsStand (of_operands d p.align sum_flags w a b carry r t) (with_status (sum_flags w x y c) f)
  unfolding sum_flags
  sum_stands w a b carry r x y z c t f is h k known s before =
      operands_stand sum_flags w a b carry r x y (sum_of w x y c) c t f refl h k (subst (KnownWord d p w r) is known) s before

  difference_stands : (w : Width) (a b : Option ℕ) (carry : Truth) (r : D) (x y z : ℕ) (c : Bool) (t : Truths) (f : Flags) → z ≡ difference_of w x y c
      → Tells d l p valid a x → Tells d l p valid b y → KnownWord d p w r z → StandsFor carry c → FlagsStand t f
      → FlagsStand (of_operands d p.align difference_flags w a b carry r t) (with_status (difference_flags w x y c) f)
  unfolding difference_flags
  difference_stands w a b carry r x y z c t f is h k known s before =
      operands_stand difference_flags w a b carry r x y (difference_of w x y c) c t f refl h k (subst (KnownWord d p w r) is known) s before

  -- ---- the rules but those of shifts and rotations

  -- CF as it stands for another test
  with_carry : (t : Truths) (f : Flags) (carry : Truth) (c : Bool) → StandsFor carry c → FlagsStand t f → FlagsStand (record t { carry = carry }) (record f { carry = c })
  with_carry t f carry c s h = record { carry = s; parity = h.parity; adjust = h.adjust; zero = h.zero; sign = h.sign; overflow = h.overflow; direction = h.direction }

  -- SAHF
  pub status_stands : (w : Width) (a b r : D) (x y z : ℕ) (t : Truths) (f : Flags) → d.stands a p x → FlagsStand t f → FlagsStand (ruled_truths d p.align Status w a b r t) (ruled Status w x y z f)
  unfolding ruled_truths ruled
  status_stands w a b r x y z t f h before = record {
    carry = known_stands d l p valid (λ n. is_set n 0) a x h;
    parity = known_stands d l p valid (λ n. is_set n 2) a x h;
    adjust = known_stands d l p valid (λ n. is_set n 4) a x h;
    zero = known_stands d l p valid (λ n. is_set n 6) a x h;
    sign = known_stands d l p valid (λ n. is_set n 7) a x h;
    overflow = before.overflow;
    direction = before.direction;
  }

  pub ruled_stand : (rule : FlagRule) (w : Width) (a b r : D) (x y z : ℕ) (t : Truths) (f : Flags) (choice : Choice) → is_counted rule ≡ false
      → KnownWord d p w a x → KnownWord d p w b y → KnownWord d p w r z → IsResult rule w x y f z → FlagsStand t f
      → FlagsStand (ruled_truths d p.align rule w a b r t) (flags_after rule w x y z choice f)
  unfolding ruled_truths ruled logic_flags
  ruled_stand Sum w a b r x y z t f choice not_shift h k known is before =
      sum_stands w _ _ No r x y z false t f (is ∙ apply-Add w x y) (number_tells d l p valid a x h.stands) (number_tells d l p valid b y k.stands) known refl before
  ruled_stand SumWithCarry w a b r x y z t f choice not_shift h k known is before =
      sum_stands w _ _ t.carry r x y z f.carry t f (is ∙ add-add_carry w x y f.carry) (number_tells d l p valid a x h.stands) (number_tells d l p valid b y k.stands) known before.carry before
  ruled_stand Difference w a b r x y z t f choice not_shift h k known is before =
      let s = difference_stands w _ _ No r x y z false t f (is ∙ apply-Sub w x y) (number_tells d l p valid a x h.stands) (number_tells d l p valid b y k.stands) known refl before in
      record {
        carry = as_is _ _ _ (difference_carry w x y) (operator_stands d l p valid Ult w a b x y h k);
        parity = s.parity;
        adjust = s.adjust;
        zero = as_is _ _ _ (difference_equal w x y) (operator_stands d l p valid Eq w a b x y h k);
        sign = s.sign;
        overflow = s.overflow;
        direction = s.direction;
      }
  ruled_stand DifferenceWithBorrow w a b r x y z t f choice not_shift h k known is before =
      difference_stands w _ _ t.carry r x y z f.carry t f (is ∙ sub-sub_borrow w x y f.carry) (number_tells d l p valid a x h.stands) (number_tells d l p valid b y k.stands) known before.carry before
  ruled_stand Increment w a b r x y z t f choice not_shift h k known is before =
      with_carry _ _ _ f.carry before.carry
      (sum_stands w _ (Some 1) No r x 1 z false t f (is ∙ apply-Add w x 1) (number_tells d l p valid a x h.stands) (given_tells d l p valid 1) known refl before)
  ruled_stand Decrement w a b r x y z t f choice not_shift h k known is before =
      with_carry _ _ _ f.carry before.carry
      (difference_stands w _ (Some 1) No r x 1 z false t f (is ∙ apply-Sub w x 1) (number_tells d l p valid a x h.stands) (given_tells d l p valid 1) known refl before)
  ruled_stand Negation w a b r x y z t f choice not_shift h k known is before =
      let zero = number_known d l p valid w 0 (zero_fits w) in
      with_carry _ _ _ _ (as_is _ _ _ (negation_carry w x) (opposite_stands _ _ (operator_stands d l p valid Eq w a (d.number 0) x 0 h zero)))
      (difference_stands w (Some 0) _ No r 0 x z false t f (is ∙ negation_is w x y) (given_tells d l p valid 0) (number_tells d l p valid a x h.stands) known refl before)
  ruled_stand Logic w a b r x y z t f choice not_shift h k known is before =
      let same = cut_fit w z known.fits in
      result_stands w r (cut w z) No Unknown No false (adjust_of (chosen choice)) false t f (subst (KnownWord d p w r) (sym same) known) refl tt refl before
  ruled_stand Product w a b r x y z t f choice not_shift h k known is before =
      let large = all_stand d l p valid (λ m n c. nat_le (2 ^ bits_of w) (cut w m * cut w n)) _ _ No x y false (number_tells d l p valid a x h.stands) (number_tells d l p valid b y k.stands) refl in
      record { carry = large; parity = tt; adjust = tt; zero = tt; sign = tt; overflow = large; direction = before.direction }
  ruled_stand SignedProduct w a b r x y z t f choice not_shift h k known is before =
      let large = all_stand d l p valid (λ m n c. not (is_signed w (signed_of w m *ℤ signed_of w n))) _ _ No x y false (number_tells d l p valid a x h.stands) (number_tells d l p valid b y k.stands) refl in
      record { carry = large; parity = tt; adjust = tt; zero = tt; sign = tt; overflow = large; direction = before.direction }
  ruled_stand BitTest w a b r x y z t f choice not_shift h k known is before =
      let carry = all_stand d l p valid (λ m n c. is_set (cut w m) (n % bits_of w)) _ _ No x y false (number_tells d l p valid a x h.stands) (number_tells d l p valid b y k.stands) refl in
      record { carry = carry; parity = tt; adjust = tt; zero = before.zero; sign = tt; overflow = tt; direction = before.direction }
  ruled_stand BitScan w a b r x y z t f choice not_shift h k known is before =
      let zero = as_is _ _ _ (ap (λ n. n == 0) (cut_fit w x h.fits)) (zero_stands w a x h) in
      record { carry = tt; parity = tt; adjust = tt; zero = zero; sign = tt; overflow = tt; direction = before.direction }
  ruled_stand Status w a b r x y z t f choice not_shift h k known is before = status_stands w a b r x y z t f h.stands before
  ruled_stand rule w a b r x y z t f choice not_shift h k known is before = cc

  -- ---- shifts and rotations

  -- all but CF and OF as they stand
  carry_free : (below : Bool) (choice : Choice) (t : Truths) (f : Flags) → FlagsStand t f
      → FlagsStand (record t { carry = cond below t.carry Unknown }) (freed_if (not below) carry_flag choice f)
  carry_free true choice t f h = h
  carry_free false choice t f h = record { carry = tt; parity = h.parity; adjust = h.adjust; zero = h.zero; sign = h.sign; overflow = h.overflow; direction = h.direction }

  overflow_free : (one : Bool) (choice : Choice) (t : Truths) (f : Flags) → FlagsStand t f
      → FlagsStand (record t { overflow = cond one t.overflow Unknown }) (freed_if (not one) overflow_flag choice f)
  overflow_free true choice t f h = h
  overflow_free false choice t f h = record { carry = h.carry; parity = h.parity; adjust = h.adjust; zero = h.zero; sign = h.sign; overflow = tt; direction = h.direction }

  both_free : (w : Width) (c : ℕ) (choice : Choice) (t : Truths) (f : Flags) → FlagsStand t f
      → FlagsStand (record t { carry = below_width w c t.carry; overflow = by_one c t.overflow })
      (freed_if (not (nat_lt c (bits_of w))) carry_flag choice (freed_if (not (c == 1)) overflow_flag choice f))
  both_free w c choice t f h = carry_free (nat_lt c (bits_of w)) choice _ _ (overflow_free (c == 1) choice t f h)

  -- by a count that is known, or not
  at_zero : (none : Bool) (known t : Truths) (f changed : Flags) → FlagsStand t f → (none ≡ false → FlagsStand known changed) → FlagsStand (cond none t known) (cond none f changed)
  at_zero true known t f changed before then = before
  at_zero false known t f changed before then = then refl

  either_way : (none : Bool) (t : Truths) (f changed : Flags) → FlagsStand t f → (none ≡ false → FlagsStand t changed) → FlagsStand t (cond none f changed)
  either_way true t f changed same after = same
  either_way false t f changed same after = after refl

  by_count : (o : Option ℕ) (y : ℕ) (known : ℕ → Truths) (unknown t : Truths) (f changed : Flags) → Tells d l p valid o y
      → FlagsStand t f → FlagsStand unknown f → ((y % 32 == 0) ≡ false → FlagsStand unknown changed) → ((y % 32 == 0) ≡ false → FlagsStand (known (y % 32)) changed)
      → FlagsStand (counted o known unknown t) (cond (y % 32 == 0) f changed)
  by_count None y known unknown t f changed tells before same after then = either_way (y % 32 == 0) unknown f changed same after
  by_count (Some n) y known unknown t f changed tells before same after then =
      let P : ℕ → Type 0 = λ m. FlagsStand (counted (Some m) known unknown t) (cond (y % 32 == 0) f changed) in
      subst P (tells n refl) (at_zero (y % 32 == 0) (known (y % 32)) t f changed before then)

  -- fewer flags are known
  six_unknown : (t : Truths) (f : Flags) → FlagsStand t f → FlagsStand (unknown_flags t.direction) f
  six_unknown t f h = record { carry = tt; parity = tt; adjust = tt; zero = tt; sign = tt; overflow = tt; direction = h.direction }

  two_unknown : (t : Truths) (f : Flags) → FlagsStand t f → FlagsStand (rotated Unknown Unknown t) f
  two_unknown t f h = record { carry = tt; parity = h.parity; adjust = h.adjust; zero = h.zero; sign = h.sign; overflow = tt; direction = h.direction }

  -- what is shown of a shift by a count of 1 to 31: its flags but for what is free of CF and OF
  shift_left_stands : (w : Width) (a r : D) (x z c : ℕ) (t : Truths) (f : Flags) (choice : Choice) → d.stands a p x → KnownWord d p w r z → FlagsStand t f
      → (let carry = known_of (λ n. is_set (cut w n) (bits_of w - c)) (d.number_of a) in
      FlagsStand (of_result d p.align w r carry Unknown (differ (known_of (has_sign w) (d.number_of r)) carry) t) (freed adjust_flag choice (shift_left_flags w x c z f)))
  shift_left_stands w a r x z c t f choice h known before =
      let same = sym (cut_fit w z known.fits) in
      let fits = subst (KnownWord d p w r) same known in
      let carry = known_stands d l p valid (λ n. is_set (cut w n) (bits_of w - c)) a x h in
      result_stands w r (cut w z) _ Unknown _ (is_set (cut w x) (bits_of w - c)) (adjust_of (chosen choice)) (xor (has_sign w (cut w z)) (is_set (cut w x) (bits_of w - c))) t f fits carry tt
      (differ_stands _ _ _ _ (known_stands d l p valid (has_sign w) r (cut w z) fits.stands) carry) before

  shift_right_stands : (w : Width) (a r : D) (x z c : ℕ) (overflow : Truth) (o : Bool) (t : Truths) (f : Flags) (choice : Choice) → d.stands a p x → KnownWord d p w r z → StandsFor overflow o → FlagsStand t f
      → FlagsStand (of_result d p.align w r (known_of (λ n. is_set (cut w n) (c - 1)) (d.number_of a)) Unknown overflow t) (freed adjust_flag choice (shift_right_flags w x c z o f))
  shift_right_stands w a r x z c overflow o t f choice h known s before =
      let fits = subst (KnownWord d p w r) (sym (cut_fit w z known.fits)) known in
      result_stands w r (cut w z) _ Unknown _ (is_set (cut w x) (c - 1)) (adjust_of (chosen choice)) o t f fits (known_stands d l p valid (λ n. is_set (cut w n) (c - 1)) a x h) tt s before

  rotate_left_stands : (w : Width) (r : D) (z : ℕ) (t : Truths) (f : Flags) (choice : Choice) → KnownWord d p w r z → FlagsStand t f
      → (let carry = known_of (λ n. is_set n 0) (d.number_of r) in
      FlagsStand (rotated carry (differ (known_of (has_sign w) (d.number_of r)) carry) t) (freed no_flags choice (rotate_left_flags w z f)))
  rotate_left_stands w r z t f choice known before =
      let carry = known_stands d l p valid (λ n. is_set n 0) r z known.stands in
      let P : ℕ → Type 0 = λ n. StandsFor (known_of (has_sign w) (d.number_of r)) (has_sign w n) in
      let sign = subst P (sym (cut_fit w z known.fits)) (known_stands d l p valid (has_sign w) r z known.stands) in
      record { carry = carry; parity = before.parity; adjust = before.adjust; zero = before.zero; sign = before.sign; overflow = differ_stands _ _ _ _ sign carry; direction = before.direction }

  rotate_right_stands : (w : Width) (r : D) (z : ℕ) (t : Truths) (f : Flags) (choice : Choice) → KnownWord d p w r z → FlagsStand t f
      → (let carry = known_of (has_sign w) (d.number_of r) in
      FlagsStand (rotated carry (differ carry (known_of (λ n. is_set n (bits_of w - 2)) (d.number_of r))) t) (freed no_flags choice (rotate_right_flags w z f)))
  rotate_right_stands w r z t f choice known before =
      let P : ℕ → Type 0 = λ n. StandsFor (known_of (has_sign w) (d.number_of r)) (has_sign w n) in
      let sign = subst P (sym (cut_fit w z known.fits)) (known_stands d l p valid (has_sign w) r z known.stands) in
      let next = known_stands d l p valid (λ n. is_set n (bits_of w - 2)) r z known.stands in
      record { carry = sign; parity = before.parity; adjust = before.adjust; zero = before.zero; sign = before.sign; overflow = differ_stands _ _ _ _ sign next; direction = before.direction }

  -- ---- by the count

  -- CF and OF where they are not free
  abbrev partly : Width → ℕ → Truths → Truths
  partly w c t = record t { carry = below_width w c t.carry; overflow = by_one c t.overflow }

  -- the flags g of a count of 1 to 31, with what is free of CF and OF
  abbrev freed_at : Width → ℕ → Choice → Flags → Flags
  freed_at w c choice g = freed_if (not (nat_lt c (bits_of w))) carry_flag choice (freed_if (not (c == 1)) overflow_flag choice g)

  count_stands : (o : Option ℕ) (y : ℕ) (w : Width) (choice : Choice) (known : ℕ → Truths) (unknown t : Truths) (f g changed : Flags) → Tells d l p valid o y
      → FlagsStand t f → FlagsStand unknown f → ((h : Flags) → FlagsStand (partly w (y % 32) (known (y % 32))) h → FlagsStand unknown h)
      → ((y % 32 == 0) ≡ false → changed ≡ g) → FlagsStand (known (y % 32)) g
      → FlagsStand (counted o (λ c. partly w c (known c)) unknown t) (cond (y % 32 == 0) f (freed_at w (y % 32) choice changed))
  count_stands o y w choice known unknown t f g changed tells before less weaker same stands =
      let partly_stands = both_free w (y % 32) choice (known (y % 32)) g stands in
      by_count o y (λ c. partly w c (known c)) unknown t f (freed_at w (y % 32) choice changed) tells before less
      (λ some. let P : Flags → Type 0 = λ h. FlagsStand unknown (freed_at w (y % 32) choice h) in subst P (sym (same some)) (weaker _ partly_stands))
      (λ some. let P : Flags → Type 0 = λ h. FlagsStand (partly w (y % 32) (known (y % 32))) (freed_at w (y % 32) choice h) in subst P (sym (same some)) partly_stands)

  -- a count modulo 32 is so twice
  some_count : (F : ℕ → Flags) (f : Flags) (y : ℕ) → (y % 32 == 0) ≡ false → unless_zero (y % 32 % 32) (F (y % 32 % 32)) f ≡ F (y % 32)
  some_count F f y some =
      let twice : y % 32 % 32 ≡ y % 32 = omega arith in
      ap (λ k. unless_zero k (F k) f) twice ∙ ap (λ b. cond b f (F (y % 32))) some

  pub counted_stand : (rule : FlagRule) (w : Width) (a b r : D) (x y z : ℕ) (t : Truths) (f : Flags) (choice : Choice) → is_counted rule ≡ true
      → d.stands a p x → d.stands b p y → KnownWord d p w r z → FlagsStand t f
      → FlagsStand (ruled_truths d p.align rule w a b r t) (shifted_flags rule w x (y % 32) z choice f)
  unfolding ruled_truths ruled
  counted_stand ShiftLeft w a b r x y z t f choice is h k known before =
      count_stands (d.number_of b) y w choice (λ c. of_result d p.align w r (known_of (λ n. is_set (cut w n) (bits_of w - c)) (d.number_of a)) Unknown
      (differ (known_of (has_sign w) (d.number_of r)) (known_of (λ n. is_set (cut w n) (bits_of w - c)) (d.number_of a))) t)
      (unknown_flags t.direction) t f (freed adjust_flag choice (shift_left_flags w x (y % 32) z f)) _ (number_tells d l p valid b y k)
      before (six_unknown t f before) (λ g s. six_unknown _ g s) (λ some. ap (freed adjust_flag choice) (some_count (λ c. shift_left_flags w x c z f) f y some))
      (shift_left_stands w a r x z (y % 32) t f choice h known before)
  counted_stand ShiftRight w a b r x y z t f choice is h k known before =
      count_stands (d.number_of b) y w choice (λ c. of_result d p.align w r (known_of (λ n. is_set (cut w n) (c - 1)) (d.number_of a)) Unknown (known_of (λ n. has_sign w (cut w n)) (d.number_of a)) t)
      (unknown_flags t.direction) t f (freed adjust_flag choice (shift_right_flags w x (y % 32) z (has_sign w (cut w x)) f)) _ (number_tells d l p valid b y k)
      before (six_unknown t f before) (λ g s. six_unknown _ g s) (λ some. ap (freed adjust_flag choice) (some_count (λ c. shift_right_flags w x c z (has_sign w (cut w x)) f) f y some))
      (shift_right_stands w a r x z (y % 32) _ (has_sign w (cut w x)) t f choice h known (known_stands d l p valid (λ n. has_sign w (cut w n)) a x h) before)
  counted_stand ShiftRightSigned w a b r x y z t f choice is h k known before =
      count_stands (d.number_of b) y w choice (λ c. of_result d p.align w r (known_of (λ n. is_set (cut w n) (c - 1)) (d.number_of a)) Unknown No t)
      (unknown_flags t.direction) t f (freed adjust_flag choice (shift_right_flags w x (y % 32) z false f)) _ (number_tells d l p valid b y k)
      before (six_unknown t f before) (λ g s. six_unknown _ g s) (λ some. ap (freed adjust_flag choice) (some_count (λ c. shift_right_flags w x c z false f) f y some))
      (shift_right_stands w a r x z (y % 32) No false t f choice h known refl before)
  counted_stand ShiftRightDouble w a b r x y z t f choice is h k known before =
      let P : ℕ → Type 0 = λ n. StandsFor (known_of (has_sign w) (d.number_of r)) (has_sign w n) in
      let sign = subst P (sym (cut_fit w z known.fits)) (known_stands d l p valid (has_sign w) r z known.stands) in
      let top = known_stands d l p valid (λ n. has_sign w (cut w n)) a x h in
      count_stands (d.number_of b) y w choice (λ c. of_result d p.align w r (known_of (λ n. is_set (cut w n) (c - 1)) (d.number_of a)) Unknown (sign_changed w (d.number_of a) (d.number_of r)) t)
      (unknown_flags t.direction) t f (freed adjust_flag choice (shift_right_flags w x (y % 32) z (changes_sign w x z) f)) _ (number_tells d l p valid b y k)
      before (six_unknown t f before) (λ g s. six_unknown _ g s) (λ some. ap (freed adjust_flag choice) (some_count (λ c. shift_right_flags w x c z (changes_sign w x z) f) f y some))
      (shift_right_stands w a r x z (y % 32) _ (changes_sign w x z) t f choice h known (differ_stands _ _ _ _ sign top) before)
  counted_stand RotateLeft w a b r x y z t f choice is h k known before =
      count_stands (d.number_of b) y w choice (λ c. rotated (known_of (λ n. is_set n 0) (d.number_of r)) (differ (known_of (has_sign w) (d.number_of r)) (known_of (λ n. is_set n 0) (d.number_of r))) t)
      (rotated Unknown Unknown t) t f (freed no_flags choice (rotate_left_flags w z f)) _ (number_tells d l p valid b y k)
      before (two_unknown t f before) (λ g s. two_unknown _ g s) (λ some. ap (freed no_flags choice) (some_count (λ c. rotate_left_flags w z f) f y some))
      (rotate_left_stands w r z t f choice known before)
  counted_stand RotateRight w a b r x y z t f choice is h k known before =
      count_stands (d.number_of b) y w choice (λ c. rotated (known_of (has_sign w) (d.number_of r)) (differ (known_of (has_sign w) (d.number_of r)) (known_of (λ n. is_set n (bits_of w - 2)) (d.number_of r))) t)
      (rotated Unknown Unknown t) t f (freed no_flags choice (rotate_right_flags w z f)) _ (number_tells d l p valid b y k)
      before (two_unknown t f before) (λ g s. two_unknown _ g s) (λ some. ap (freed no_flags choice) (some_count (λ c. rotate_right_flags w z f) f y some))
      (rotate_right_stands w r z t f choice known before)
  counted_stand rule w a b r x y z t f choice is h k known before = cc

  -- ---- double shifts

  -- DF is kept
  past_direction : (none wide one : Bool) (past : FlagSet) (choice : Choice) (f g : Flags) → g.direction ≡ f.direction
      → (cond none f (freed_if (not wide) past choice (freed_if (not one) overflow_flag choice g))).direction ≡ f.direction
  past_direction true wide one past choice f g e = refl
  past_direction false true true past choice f g e = e
  past_direction false true false past choice f g e = e
  past_direction false false true past choice f g e = e
  past_direction false false false past choice f g e = e

  either_direction : (none : Bool) (f g : Flags) → g.direction ≡ f.direction → (cond none f g).direction ≡ f.direction
  either_direction true f g e = refl
  either_direction false f g e = e

  pub double_direction : (rule : FlagRule) (w : Width) (x c z : ℕ) (f : Flags) (choice : Choice) → is_double rule ≡ true → (double_flags rule w x c z choice f).direction ≡ f.direction
  unfolding ruled
  double_direction ShiftLeft w x c z f choice is =
      past_direction (c == 0) (nat_lt c (bits_of w)) (c == 1) status_flags choice f (flags_after ShiftLeft w x c z choice f)
      (either_direction (c % 32 == 0) f (shift_left_flags w x (c % 32) z f) refl)
  double_direction ShiftRightDouble w x c z f choice is =
      past_direction (c == 0) (nat_lt c (bits_of w)) (c == 1) status_flags choice f (flags_after ShiftRightDouble w x c z choice f)
      (either_direction (c % 32 == 0) f (shift_right_flags w x (c % 32) z (changes_sign w x z) f) refl)
  double_direction rule w x c z f choice is = cc

  double_counted : (rule : FlagRule) → is_double rule ≡ true → is_counted rule ≡ true
  double_counted ShiftLeft is = refl
  double_counted ShiftRightDouble is = refl
  double_counted rule is = cc

  -- by a count below the width they are those of a shift
  below_flags : (rule : FlagRule) (w : Width) (x c z : ℕ) (f : Flags) (choice : Choice) → nat_lt c (bits_of w) ≡ true → shifted_flags rule w x c z choice f ≡ double_flags rule w x c z choice f
  below_flags rule w x c z f choice less =
      ap (λ b. cond (c == 0) f (freed_if (not b) carry_flag choice (freed_if (not (c == 1)) overflow_flag choice (flags_after rule w x c z choice f)))) less
      ∙ sym (ap (λ b. cond (c == 0) f (freed_if (not b) status_flags choice (freed_if (not (c == 1)) overflow_flag choice (flags_after rule w x c z choice f)))) less)

  known_below : (o : Option ℕ) (w : Width) (y : ℕ) → Tells d l p valid o y → is_below w o ≡ true → nat_lt (y % 32) (bits_of w) ≡ true
  known_below None w y tells e = cc
  known_below (Some n) w y tells e = ap (λ k. nat_lt (k % 32) (bits_of w)) (tells n refl) ∙ e

  pub double_stand : (rule : FlagRule) (w : Width) (a b r : D) (x y z : ℕ) (t : Truths) (f : Flags) (choice : Choice) → is_double rule ≡ true
      → d.stands a p x → d.stands b p y → KnownWord d p w r z → FlagsStand t f
      → FlagsStand (double_truths d p.align rule w a b r t) (double_flags rule w x (y % 32) z choice f)
  double_stand rule w a b r x y z t f choice is h k known before =
      elim (is_below w (d.number_of b)) as (λ less. is_below w (d.number_of b) ≡ less → FlagsStand (cond less (ruled_truths d p.align rule w a b r t) (unknown_flags t.direction)) (double_flags rule w x (y % 32) z choice f)) [
        | true ↦ λ e.
            let same = below_flags rule w x (y % 32) z f choice (known_below (d.number_of b) w y (number_tells d l p valid b y k) e) in
            subst (FlagsStand (ruled_truths d p.align rule w a b r t)) same (counted_stand rule w a b r x y z t f choice (double_counted rule is) h k known before)
        | false ↦ λ e.
            let direction = subst (StandsFor t.direction) (sym (double_direction rule w x (y % 32) z f choice is)) before.direction in
            record { carry = tt; parity = tt; adjust = tt; zero = tt; sign = tt; overflow = tt; direction = direction }
      ] refl

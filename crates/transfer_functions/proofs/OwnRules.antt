-- The operators, rules and numbers that instructions have: each operator comes with a rule of its own.
use Rattle.std.proofs.Common.{◌≡◌, ◌<◌, ◌^◌, Bool, true, false, List, [], ◌∷◌, cond, refl, arith, ◌⊎◌, inl, inr}
use Rattle.std.specs.Prelude.{⊤}
use Rattle.address_regions.specs.Places.{Places}
use Rattle.bit_words.specs.declared.width.Width.{Width}
use Rattle.bit_words.specs.declared.op.Op.{Op}
use Rattle.bit_words.specs.declared.op.Op.TheVariants as ops
use Rattle.bit_words.specs.Operators.{apply_op, one_if}
use Rattle.bit_words.specs.Width.{bits_of, cut}
use Rattle.bit_words.proofs.Laws.{cut-lt}
use Rattle.domain_laws.specs.Laws.{Values, IsLawful}
use Rattle.memory_map.specs.Image.{Image}
use Rattle.partitioned_memory.specs.declared.fact.Counted.{Counted}
use Rattle.x86_syntax.specs.declared.instr.Cond.{Cond}
use Rattle.x86_syntax.specs.declared.instr.Instr.{Instr}
use Rattle.x86_syntax.specs.declared.instr.Mnemonic.{Mnemonic}
use Rattle.x86_syntax.specs.declared.instr.Mnemonic.TheVariants as names
use Rattle.x86_syntax.specs.declared.instr.Operand.{Operand}
use Rattle.x86_syntax.specs.declared.instr.Operand.TheVariants.{Register, Number, Memory, Offset}
use Rattle.x86_semantics.specs.declared.flag_rule.FlagRule.{FlagRule}
use Rattle.x86_semantics.specs.declared.flag_rule.FlagRule.TheVariants.{Difference, Logic}
use Rattle.x86_semantics.specs.declared.operation.BitChange.{BitChange}
use Rattle.x86_semantics.specs.declared.operation.Looping.{Looping}
use Rattle.x86_semantics.specs.declared.operation.Operation.{Operation}
use Rattle.x86_semantics.specs.declared.operation.Operation.TheVariants.{Combine, Carry, Compare, Convert, Shift, DoubleShift, MultiplyLong, Return}
use Rattle.x86_semantics.specs.Operations.{bit_scan_of, bit_test_of, compare_exchange_of, count_jump_of, double_shift_of, exchange_add_of, exchange_of, jump_of, lea_of, loop_of, of_none, of_one, of_three, of_two, operation_of, operation_with, product_of, return_of, unlisted}
use Rattle.x86_semantics.specs.Widths.{has_own_widths}
use Rattle.transfer_functions.proofs.FlagsSound.{is_counted, is_double}
use Rattle.transfer_functions.proofs.SoundArithmetic.{HasRule, dec_rule, inc_rule, logic_rule, neg_rule, sub_rule, sub_with_borrow_rule, sum_rule, sum_with_carry_rule}
use Rattle.transfer_functions.proofs.SoundProducts.{is_product}
use Rattle.transfer_functions.proofs.SoundShifts.{IsJoining, is_shift}
use Rattle.transfer_functions.proofs.Words.{word_fits, zero_fits}

-- CMP, and TEST
abbrev pub IsComparison : Op → FlagRule → Type 0
IsComparison op rule = ((op ≡ ops.Sub) × (rule ≡ Difference)) ⊎ ((op ≡ ops.And) × (rule ≡ Logic))

module _ {D : Type 0} (d : Values D) (l : IsLawful d) (image : Image) (p : Places) (blocks : List Counted) where
  -- an operator and a rule that belong together, and numbers that are words
  abbrev pub IsOwn : Operation → Type 0
  IsOwn (Combine op rule w to from) = HasRule d l image p blocks rule op w to from (λ x y c. apply_op op w x y)
  IsOwn (Carry op rule w to from) = HasRule d l image p blocks rule op w to from (λ x y c. apply_op op w (apply_op op w x y) (one_if c))
  IsOwn (Compare op rule w left right) = IsComparison op rule
  IsOwn (Convert op w to from by) = by < 2 ^ bits_of w
  IsOwn (Shift op rule w to count) = (is_shift op ≡ true) × (is_counted rule ≡ true)
  IsOwn (DoubleShift op other rule w to r count) = IsJoining op other × (is_double rule ≡ true)
  IsOwn (MultiplyLong high rule w from) = is_product rule ≡ true
  IsOwn (Return extra) = extra < 2 ^ 32
  IsOwn operation = ⊤

  -- ---- by the operands

  jump_own : (c : Cond) (a : Operand) → IsOwn (jump_of c a)
  jump_own c (Register w r) = tt
  jump_own c (Number w n) = tt
  jump_own c (Memory w b) = tt
  jump_own c (Offset o) = tt

  loop_own : (kind : Looping) (a : Operand) → IsOwn (loop_of kind a)
  loop_own kind (Register w r) = tt
  loop_own kind (Number w n) = tt
  loop_own kind (Memory w b) = tt
  loop_own kind (Offset o) = tt

  count_jump_own : (a : Operand) → IsOwn (count_jump_of a)
  count_jump_own (Register w r) = tt
  count_jump_own (Number w n) = tt
  count_jump_own (Memory w b) = tt
  count_jump_own (Offset o) = tt

  return_own : (a : Operand) → IsOwn (return_of a)
  return_own (Register w r) = tt
  return_own (Number w n) = word_fits w (cut w n) (cut-lt w n)
  return_own (Memory w b) = tt
  return_own (Offset o) = tt

  lea_own : (to from : Operand) → IsOwn (lea_of to from)
  lea_own to (Register w r) = tt
  lea_own to (Number w n) = tt
  lea_own to (Memory w b) = tt
  lea_own to (Offset o) = tt

  exchange_own : (place other : Operand) → IsOwn (exchange_of place other)
  exchange_own place (Register w r) = tt
  exchange_own place (Number w n) = tt
  exchange_own place (Memory w b) = tt
  exchange_own place (Offset o) = tt

  compare_exchange_own : (place other : Operand) → IsOwn (compare_exchange_of place other)
  compare_exchange_own place (Register w r) = tt
  compare_exchange_own place (Number w n) = tt
  compare_exchange_own place (Memory w b) = tt
  compare_exchange_own place (Offset o) = tt

  exchange_add_own : (place other : Operand) → IsOwn (exchange_add_of place other)
  exchange_add_own place (Register w r) = tt
  exchange_add_own place (Number w n) = tt
  exchange_add_own place (Memory w b) = tt
  exchange_add_own place (Offset o) = tt

  bit_test_own : (change : BitChange) (of index : Operand) → IsOwn (bit_test_of change of index)
  bit_test_own change (Register w r) index = tt
  bit_test_own change (Number w n) index = tt
  bit_test_own change (Memory w b) index = tt
  bit_test_own change (Offset o) index = tt

  bit_scan_own : (op : Op) (to from : Operand) → IsOwn (bit_scan_of op to from)
  bit_scan_own op (Register w r) from = tt
  bit_scan_own op (Number w n) from = tt
  bit_scan_own op (Memory w b) from = tt
  bit_scan_own op (Offset o) from = tt

  double_shift_own : (op other : Op) (rule : FlagRule) (to from count : Operand) → IsJoining op other → is_double rule ≡ true → IsOwn (double_shift_of op other rule to from count)
  double_shift_own op other rule to (Register w r) count joins doubles = (joins, doubles)
  double_shift_own op other rule to (Number w n) count joins doubles = tt
  double_shift_own op other rule to (Memory w b) count joins doubles = tt
  double_shift_own op other rule to (Offset o) count joins doubles = tt

  product_own : (to left right : Operand) → IsOwn (product_of to left right)
  product_own (Register w r) left right = tt
  product_own (Number w n) left right = tt
  product_own (Memory w b) left right = tt
  product_own (Offset o) left right = tt

  -- ---- by the mnemonics

  none_own : (name : Mnemonic) (i : Instr) → IsOwn (of_none name i)
  none_own names.Ret i = omega arith
  none_own names.Cbw i = omega arith
  none_own names.Cwde i = omega arith
  none_own names.Cwd i = omega arith
  none_own names.Cdq i = omega arith
  none_own name i = tt

  one_own : (name : Mnemonic) (w : Width) (a : Operand) → IsOwn (of_one name w a)
  one_own names.Inc w a = inc_rule d l image p blocks w a
  one_own names.Dec w a = dec_rule d l image p blocks w a
  one_own names.Neg w a = neg_rule d l image p blocks w a (Number w 0)
  one_own names.Not w a = zero_fits w
  one_own names.Bswap w a = zero_fits w
  one_own names.Mul w a = refl
  one_own names.Imul w a = refl
  one_own (names.J c) w a = jump_own c a
  one_own names.Loop w a = loop_own _ a
  one_own names.Loope w a = loop_own _ a
  one_own names.Loopne w a = loop_own _ a
  one_own names.Jecxz w a = count_jump_own a
  one_own names.Ret w a = return_own a
  one_own name w a = tt

  two_own : (name : Mnemonic) (w : Width) (a b : Operand) → IsOwn (of_two name w a b)
  two_own names.Add w a b = sum_rule d l image p blocks w a b
  two_own names.Sub w a b = sub_rule d l image p blocks w a b
  two_own names.And w a b = logic_rule d l image p blocks ops.And w a b
  two_own names.Or w a b = logic_rule d l image p blocks ops.Or w a b
  two_own names.Xor w a b = logic_rule d l image p blocks ops.Xor w a b
  two_own names.Adc w a b = sum_with_carry_rule d l image p blocks w a b
  two_own names.Sbb w a b = sub_with_borrow_rule d l image p blocks w a b
  two_own names.Cmp w a b = inl (refl, refl)
  two_own names.Test w a b = inr (refl, refl)
  two_own names.Movsx w a b = zero_fits w
  two_own names.Lea w a b = lea_own a b
  two_own names.Xchg w a b = exchange_own a b
  two_own names.Shl w a b = (refl, refl)
  two_own names.Shr w a b = (refl, refl)
  two_own names.Sar w a b = (refl, refl)
  two_own names.Rol w a b = (refl, refl)
  two_own names.Ror w a b = (refl, refl)
  two_own names.Bt w a b = bit_test_own _ a b
  two_own names.Bts w a b = bit_test_own _ a b
  two_own names.Btr w a b = bit_test_own _ a b
  two_own names.Btc w a b = bit_test_own _ a b
  two_own names.Bsf w a b = bit_scan_own _ a b
  two_own names.Bsr w a b = bit_scan_own _ a b
  two_own names.Cmpxchg w a b = compare_exchange_own a b
  two_own names.Xadd w a b = exchange_add_own a b
  two_own names.Imul w a b = product_own a a b
  two_own name w a b = tt

  three_own : (name : Mnemonic) (w : Width) (a b c : Operand) → IsOwn (of_three name w a b c)
  three_own names.Imul w a b c = product_own a b c
  three_own names.Shld w a b c = double_shift_own _ _ _ a b c (inl (refl, refl)) refl
  three_own names.Shrd w a b c = double_shift_own _ _ _ a b c (inr (refl, refl)) refl
  three_own name w a b c = tt

  with_own : (name : Mnemonic) (i : Instr) (operands : List Operand) → IsOwn (operation_with name i operands)
  with_own name i [] = none_own name i
  with_own name i (a ∷ []) = one_own name i.w a
  with_own name i (a ∷ b ∷ []) = two_own name i.w a b
  with_own name i (a ∷ b ∷ c ∷ []) = three_own name i.w a b c
  with_own name i (a ∷ b ∷ c ∷ e ∷ rest) = tt

  spelled_own : (operation : Operation) (spelled : Bool) → IsOwn operation → IsOwn (cond spelled operation unlisted)
  spelled_own operation true own = own
  spelled_own operation false own = tt

  -- what an instruction does has an operator and a rule that belong together
  pub operations_own : (i : Instr) → IsOwn (operation_of i)
  unfolding operation_of
  operations_own i = spelled_own (operation_with i.name i i.ops.items) (has_own_widths (operation_with i.name i i.ops.items)) (with_own i.name i i.ops.items)

-- Bit tests, bit scans and exchanges with a comparison or a sum keep states well.
use Rattle.std.proofs.Common.{◌≡◌, ℕ, ◌%◌, Bool, true, false, cond, List, Option, Some, None}
use Rattle.std.specs.Prelude.{All}
use Rattle.bit_words.specs.declared.width.Width.{Width}
use Rattle.bit_words.specs.declared.op.Op.{Op}
use Rattle.bit_words.specs.declared.op.Op.TheVariants.{Add, And, Or, Xor, Not, Shl, Eq}
use Rattle.bit_words.specs.Width.{bits_of}
use Rattle.domain_laws.specs.Laws.{Values, IsLawful}
use Rattle.memory_map.specs.Image.{Image}
use Rattle.memory_map.specs.Range.{HasBytes}
use Rattle.memory_map.specs.declared.registers.TheConstants.{EAX}
use Rattle.partitioned_memory.specs.declared.fact.Counted.{Counted}
use Rattle.partitioned_memory.specs.Well.{MayHold}
use Rattle.partitioned_memory.proofs.Holding.{any-holds, number-holds}
use Rattle.x86_syntax.specs.declared.instr.Operand.{Operand}
use Rattle.x86_syntax.specs.declared.instr.Operand.TheVariants.{Register, Number, Memory, Offset}
use Rattle.x86_semantics.specs.declared.flag_rule.FlagRule.TheVariants.{BitTest, BitScan, Sum, Difference}
use Rattle.x86_semantics.specs.declared.operation.BitChange.{BitChange}
use Rattle.x86_semantics.specs.declared.operation.BitChange.TheVariants.{KeepBit, SetBit, ClearBit, FlipBit}
use Rattle.x86_semantics.specs.Exchanges.{is_register_numbered}
use Rattle.x86_semantics.specs.Widths.{has_place, has_width, is_bit_index}
use Rattle.abstract_state.specs.declared.truth.Truth.{Truth}
use Rattle.abstract_state.specs.declared.truth.Truth.TheVariants.{Yes, No, Unknown}
use Rattle.abstract_state.specs.Expanding.{Expanded, Path}
use Rattle.transfer_functions.specs.BitTests.{bit_value, find_bit, found_bit, test_bit, with_bit}
use Rattle.transfer_functions.specs.Exchanges.{compare_exchange, exchange_add, exchanged, not_exchanged, taken}
use Rattle.transfer_functions.specs.Flags.{by_operator}
use Rattle.transfer_functions.specs.Values.{on_state, part}
use Rattle.transfer_functions.proofs.Keeping.{IsWellPath, KeepsWell, StoresKeep, part_holds, reading_keeps, with_part_keeps}
use Rattle.transfer_functions.proofs.KeepingPaths.{either_keeps}
use Rattle.transfer_functions.proofs.KeepingShapes.{eval_holds, flagged_keeps, place_keeps, value_keeps}
use Rattle.transfer_functions.proofs.SoundArithmetic.{place_has_width}
use Rattle.transfer_functions.proofs.SoundBitTests.{index_is_value, place_fits}
use Rattle.transfer_functions.proofs.Words.{one_fits, zero_fits}

module _ {D : Type 0} (d : Values D) (l : IsLawful d) (image : Image) (blocks : List Counted) (bytes : All HasBytes image.segments) (stores : StoresKeep d l image blocks) where
  abbrev K : Expanded D → Type 0
  K x = KeepsWell d l image blocks x

  abbrev W : Path D → Type 0
  W q = IsWellPath d l image blocks q

  abbrev M : Width → D → Type 0
  M w v = MayHold d blocks w v

  -- ---- bits

  bit_holds : (w : Width) (o : Option ℕ) → M w (bit_value d image.align w o)
  bit_holds w None = any-holds d l blocks w
  bit_holds w (Some n) =
      eval_holds d l image blocks bytes stores Shl w _ _ (number-holds d l blocks w 1 (one_fits w)) (number-holds d l blocks w (n % bits_of w) (place_fits w n))

  with_bit_keeps : (change : BitChange) (w : Width) (r : ℕ) (v : D) (q : Path D) → M w v → W q → W (on_state (with_bit d image.align change w r v) q)
  with_bit_keeps KeepBit w r v q m h = h
  with_bit_keeps SetBit w r v q m h = with_part_keeps d l image blocks w r _ q (eval_holds d l image blocks bytes stores Or w _ v (part_holds d l image blocks w r q h) m) h
  with_bit_keeps ClearBit w r v q m h =
      let others = eval_holds d l image blocks bytes stores Not w v _ m (number-holds d l blocks w 0 (zero_fits w)) in
      with_part_keeps d l image blocks w r _ q (eval_holds d l image blocks bytes stores And w _ _ (part_holds d l image blocks w r q h) others) h
  with_bit_keeps FlipBit w r v q m h = with_part_keeps d l image blocks w r _ q (eval_holds d l image blocks bytes stores Xor w _ v (part_holds d l image blocks w r q h) m) h

  pub test_bit_keeps : (change : BitChange) (w : Width) (r : ℕ) (index : Operand) (next : ℕ) (q : Path D) → is_bit_index w index ≡ true → W q → K (test_bit d image change w r index next q)
  test_bit_keeps change w r index next q is h =
      reading_keeps d l image blocks index q _ bytes (index_is_value w index is) h (λ v m.
      flagged_keeps d l image blocks bytes stores BitTest w _ v _ next _ (with_bit_keeps change w r _ q (bit_holds w (d.number_of v)) h))

  found_holds : (t : Truth) (op : Op) (w : Width) (b : D) → M w b → M w (found_bit d image.align t op w b)
  found_holds No op w b m = eval_holds d l image blocks bytes stores op w b _ m (number-holds d l blocks w 0 (zero_fits w))
  found_holds Yes op w b m = any-holds d l blocks w
  found_holds Unknown op w b m = any-holds d l blocks w

  pub find_bit_keeps : (op : Op) (w : Width) (r : ℕ) (from : Operand) (next : ℕ) (q : Path D) → has_width w from ≡ true → W q → K (find_bit d image op w r from next q)
  find_bit_keeps op w r from next q has h =
      value_keeps d l image blocks bytes stores w from q _ has h (λ b m.
      flagged_keeps d l image blocks bytes stores BitScan w b _ _ next _
      (with_part_keeps d l image blocks w r _ q (found_holds (by_operator d image.align Eq w b (d.number 0)) op w b m) h))

  -- ---- exchanges

  taken_keeps : (w : Width) (v u : D) (next : ℕ) (q : Path D) → M w u → W q → K (taken d image w v u next q)
  taken_keeps w v u next q m h = flagged_keeps d l image blocks bytes stores Difference w v u _ next _ (with_part_keeps d l image blocks w EAX u q m h)

  exchanged_keeps : (place : Operand) (w : Width) (r : ℕ) (v u : D) (next : ℕ) (q : Path D) → has_place w place ≡ true → W q → K (exchanged d image place w r v u next q)
  exchanged_keeps place w r v u next q is h =
      place_keeps d l image blocks bytes stores w place _ q _ is (part_holds d l image blocks w r q h) h (λ o own. flagged_keeps d l image blocks bytes stores Difference w v u _ next o own)

  not_exchanged_keeps : (place : Operand) (w : Width) (v u : D) (next : ℕ) (q : Path D) → has_place w place ≡ true → M w u → W q
      → K (not_exchanged d image place w v u next q)
  not_exchanged_keeps (Memory z a) w v u next q is m h = place_keeps d l image blocks bytes stores w (Memory z a) u q _ is m h (λ o own. taken_keeps w v u next o m own)
  not_exchanged_keeps (Register z k) w v u next q is m h = taken_keeps w v u next q m h
  not_exchanged_keeps (Number z n) w v u next q is m h = taken_keeps w v u next q m h
  not_exchanged_keeps (Offset o) w v u next q is m h = taken_keeps w v u next q m h

  pub compare_exchange_keeps : (place : Operand) (w : Width) (r next : ℕ) (q : Path D) → has_place w place ≡ true → W q → K (compare_exchange d image place w r next q)
  compare_exchange_keeps place w r next q is h =
      value_keeps d l image blocks bytes stores w place q _ (place_has_width w place is) h (λ u m.
      let acc = part d image.align w EAX q.state in
      either_keeps d l image blocks bytes stores (by_operator d image.align Eq w acc u) (exchanged d image place w r acc u next q) (not_exchanged d image place w acc u next q)
      (exchanged_keeps place w r acc u next q is h) (not_exchanged_keeps place w acc u next q is m h))

  either_holds : (b : Bool) (w : Width) (v u : D) → M w v → M w u → M w (cond b v u)
  either_holds true w v u m n = m
  either_holds false w v u m n = n

  pub exchange_add_keeps : (place : Operand) (w : Width) (r next : ℕ) (q : Path D) → has_place w place ≡ true → W q → K (exchange_add d image place w r next q)
  exchange_add_keeps place w r next q is h =
      value_keeps d l image blocks bytes stores w place q _ (place_has_width w place is) h (λ v m.
      let sum = eval_holds d l image blocks bytes stores Add w v _ m (part_holds d l image blocks w r q h) in
      place_keeps d l image blocks bytes stores w place _ q _ is sum h (λ o own.
      flagged_keeps d l image blocks bytes stores Sum w v _ _ next _ (with_part_keeps d l image blocks w r _ o (either_holds (is_register_numbered r place) w _ v sum m) own)))

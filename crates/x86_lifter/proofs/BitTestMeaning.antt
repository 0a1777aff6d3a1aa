-- Bits tested, changed and found: the statements do what the instruction does.
use Rattle.std.proofs.Common.{◌≡◌, ℕ, ◌-◌, ◌%◌, Bool, true, false, cond, not, ◌++◌, drop, refl, ◌∙◌, ap, arith, ◌==◌}
use Rattle.bit_words.specs.declared.width.Width.{Width}
use Rattle.bit_words.specs.declared.width.Width.TheVariants.{B8, B16, B32}
use Rattle.bit_words.specs.declared.op.Op.{Op}
use Rattle.bit_words.specs.declared.op.Op.TheVariants.{And, Or, Xor, Not, Shl, Eq}
use Rattle.bit_words.specs.Width.{bits_of, cut}
use Rattle.bit_words.specs.Operators.{apply_op, formula}
use Rattle.bit_words.proofs.Laws.{and-low_mask}
use Rattle.memory_map.specs.declared.choice.Choice.{Choice}
use Rattle.memory_map.specs.State.{MachineState}
use Rattle.x86_syntax.specs.declared.instr.Operand.{Operand}
use Rattle.x86_semantics.specs.declared.flag_rule.FlagRule.TheVariants.{BitTest}
use Rattle.x86_semantics.specs.declared.operation.BitChange.{BitChange}
use Rattle.x86_semantics.specs.declared.operation.BitChange.TheVariants.{KeepBit, SetBit, ClearBit, FlipBit}
use Rattle.x86_semantics.specs.Registers.{part}
use Rattle.x86_semantics.specs.Arithmetic.{flagged}
use Rattle.x86_semantics.specs.BitTests.{bit, with_bit, test_bit, found_bit, find_bit}
use Rattle.statement_lang.specs.Run.{run, run_from}
use Rattle.x86_lifter.specs.Pieces.{places}
use Rattle.x86_lifter.specs.Lists.{none, testing_bit, finding_bit}
use Rattle.x86_lifter.proofs.Places.{place, temps}
use Rattle.x86_lifter.proofs.ShiftMeaning.{one-if-zero}
use Rattle.x86_lifter.proofs.Values.{run-one, fetched-register, kept-register, reading-same, inside}

-- ---- bits tested

place-of-bit : (w : Width) (v : ℕ) → apply_op And B32 v (bits_of w - 1) ≡ v % bits_of w
place-of-bit B8 v = and-low_mask B32 v 3 (omega arith)
place-of-bit B16 v = and-low_mask B32 v 4 (omega arith)
place-of-bit B32 v = and-low_mask B32 v 5 (omega arith)

-- behind the place of the bit: what becomes of it, and the flags
bit-changed : (change : BitChange) (w : Width) (r : ℕ) (index : Operand) (next : ℕ) (c : Choice) (m : MachineState) (p v i : ℕ)
    → run_from (drop 3 (testing_bit change w r index next)) 0 c m (temps p 0 v (part w r m) 0 i 0)
    ≡ flagged BitTest w (part w r m) v 0 next c (with_bit change w r i m)
bit-changed KeepBit w r index next c m p v i = refl
bit-changed SetBit w r index next c m p v i =
    kept-register w r 4 (drop 7 (testing_bit SetBit w r index next)) c m (temps p 0 v (part w r m) (apply_op Or w (part w r m) (bit w i)) i 0)
bit-changed ClearBit w r index next c m p v i =
    kept-register w r 4 (drop 7 (testing_bit ClearBit w r index next)) c m (temps p 0 v (part w r m) (apply_op And w (part w r m) (apply_op Not w (bit w i) 0)) i 0)
bit-changed FlipBit w r index next c m p v i =
    kept-register w r 4 (drop 7 (testing_bit FlipBit w r index next)) c m (temps p 0 v (part w r m) (apply_op Xor w (part w r m) (bit w i)) i 0)

pub bit-tested : (change : BitChange) (w : Width) (r : ℕ) (index : Operand) (next : ℕ) (c : Choice) (m : MachineState)
    → run (places index none ++ testing_bit change w r index next) c m ≡ test_bit change w r index next c m
bit-tested change w r index next c m =
    let list = testing_bit change w r index next in
    run-one index none (drop 1 list) c m
    ∙ reading-same m index _ _ (λ v.
    fetched-register w r 3 (drop 2 list) c m (temps (place m index) 0 v 0 0 0 0)
    ∙ ap (λ i. run_from (drop 3 list) 0 c m (temps (place m index) 0 v (part w r m) 0 i 0)) (place-of-bit w v)
    ∙ bit-changed change w r index next c m (place m index) v (v % bits_of w))

-- ---- bits found

no-bit-test : (w : Width) (b : ℕ) → (apply_op Eq w b 0 == 0) ≡ not (cut w b == 0)
unfolding apply_op formula
no-bit-test B8 b = one-if-zero (cut B8 b == 0)
no-bit-test B16 b = one-if-zero (cut B16 b == 0)
no-bit-test B32 b = one-if-zero (cut B32 b == 0)

pub not-cond : {A : Type 0} (t : Bool) (x y : A) → cond (not t) x y ≡ cond t y x
not-cond true x y = refl
not-cond false x y = refl

found-or-free : (op : Op) (w : Width) (b : ℕ) (c : Choice) → cond (apply_op Eq w b 0 == 0) (apply_op op w b 0) (cut w c.eax) ≡ found_bit op w b c
found-or-free op w b c =
    ap (λ t. cond t (apply_op op w b 0) (cut w c.eax)) (no-bit-test w b) ∙ not-cond (cut w b == 0) (apply_op op w b 0) (cut w c.eax)

pub bit-found : (op : Op) (w : Width) (r : ℕ) (from : Operand) (next : ℕ) (c : Choice) (m : MachineState)
    → run (places from none ++ finding_bit op w r from next) c m ≡ find_bit op w r from next c m
bit-found op w r from next c m =
    let list = finding_bit op w r from next in
    run-one from none (drop 1 list) c m
    ∙ reading-same m from _ _ (λ b.
    let none_set = apply_op Eq w b 0 in
    inside (λ x. run_from (drop 5 list) 0 c m (temps (place m from) 0 b 0 x none_set 0)) (none_set == 0) (apply_op op w b 0) (cut w c.eax)
    ∙ ap (λ x. run_from (drop 5 list) 0 c m (temps (place m from) 0 b 0 x none_set 0)) (found-or-free op w b c)
    ∙ kept-register w r 4 (drop 6 list) c m (temps (place m from) 0 b 0 (found_bit op w b c) none_set 0))

-- Shifts, rotations and double shifts: the statements do what the instruction does.
use Rattle.std.proofs.Common.{◌≡◌, ℕ, ◌-◌, ◌%◌, ◌^◌, ◌<◌, Bool, true, false, cond, not, ◌++◌, drop, refl, ◌∙◌, ap, arith, ◌==◌}
use Rattle.std.specs.Prelude.{nat_lt}
use Rattle.std.proofs.lemmas.Nat.{and_mask}
use Rattle.std.proofs.lemmas.Bool.{ltb-true}
use Rattle.bit_words.specs.declared.width.Width.{Width}
use Rattle.bit_words.specs.declared.width.Width.TheVariants.{B8, B16, B32}
use Rattle.bit_words.specs.declared.op.Op.{Op}
use Rattle.bit_words.specs.declared.op.Op.TheVariants.{Sub, And, Or, Eq, Ult}
use Rattle.bit_words.specs.declared.flags.Flags.{Flags as FlagSet}
use Rattle.bit_words.specs.Width.{bits_of, cut}
use Rattle.bit_words.specs.Operators.{apply_op, formula, one_if}
use Rattle.memory_map.specs.declared.choice.Choice.{Choice}
use Rattle.memory_map.specs.State.{MachineState, Flags}
use Rattle.x86_syntax.specs.declared.instr.Operand.{Operand}
use Rattle.x86_semantics.specs.declared.flag_rule.FlagRule.{FlagRule}
use Rattle.x86_semantics.specs.FlagRules.{flags_after, freed, carry_flag, overflow_flag, status_flags}
use Rattle.x86_semantics.specs.Registers.{part}
use Rattle.x86_semantics.specs.Operands.{Ended, Next, at_address, with_flags}
use Rattle.x86_semantics.specs.Shifts.{freed_if, flags_by_count, shift, or_of_shifts, double_result, double_shift}
use Rattle.statement_lang.specs.Run.{run, run_from}
use Rattle.x86_lifter.specs.Pieces.{places}
use Rattle.x86_lifter.specs.Lists.{shift_ending, shifting, double_shifting}
use Rattle.x86_lifter.proofs.Places.{place, temps}
use Rattle.x86_lifter.proofs.Values.{run-two, kept-first, fetched-register, inside, reading-same, writing-same}

pub masked : (v : ℕ) → apply_op And B32 v 31 ≡ v % 32
unfolding apply_op formula
masked v = and_mask (v % 2 ^ 32) 5 ∙ (let e : v % 2 ^ 32 % 32 ≡ v % 32 = omega arith in e)

pub one-if-zero : (b : Bool) → (one_if b == 0) ≡ not b
one-if-zero true = refl
one-if-zero false = refl

fits : (v : ℕ) → v % 32 % 2 ^ 32 ≡ v % 32
fits v = omega arith

equal-test : (v : ℕ) → (apply_op Eq B32 (v % 32) 1 == 0) ≡ not (v % 32 == 1)
unfolding apply_op formula
equal-test v = one-if-zero (v % 32 % 2 ^ 32 == 1) ∙ ap (λ x. not (x == 1)) (fits v)

zero-test : (v : ℕ) → (apply_op Eq B32 (v % 32) 0 == 0) ≡ not (v % 32 == 0)
unfolding apply_op formula
zero-test v = one-if-zero (v % 32 % 2 ^ 32 == 0) ∙ ap (λ x. not (x == 0)) (fits v)

pub below-test : (v : ℕ) (w : Width) → (apply_op Ult B32 (v % 32) (bits_of w) == 0) ≡ not (nat_lt (v % 32) (bits_of w))
unfolding apply_op formula
below-test v B8 = one-if-zero (nat_lt (v % 32 % 2 ^ 32) 8) ∙ ap (λ x. not (nat_lt x 8)) (fits v)
below-test v B16 = one-if-zero (nat_lt (v % 32 % 2 ^ 32) 16) ∙ ap (λ x. not (nat_lt x 16)) (fits v)
below-test v B32 = one-if-zero (nat_lt (v % 32 % 2 ^ 32) 32) ∙ ap (λ x. not (nat_lt x 32)) (fits v)

-- how the flags' statements end, by the three tests: the count is not 0, it is not 1, it is not below the width
abbrev pub ends : FlagSet → ℕ → Choice → Flags → MachineState → Bool → Bool → Bool → Ended
ends past next c f n some many wide =
    let end : Flags → Ended = λ g. Next (at_address next (with_flags g n)) in
    cond some
    (cond many
    (cond wide (end (freed past c (freed overflow_flag c f))) (end (freed overflow_flag c f)))
    (cond wide (end (freed past c f)) (end f)))
    (Next (at_address next n))

-- the same, by a choice of flags
ended : (past : FlagSet) (next : ℕ) (c : Choice) (f : Flags) (n : MachineState) (none one less : Bool)
    → ends past next c f n (not none) (not one) (not less)
    ≡ Next (at_address next (with_flags (cond none n.flags (freed_if (not less) past c (freed_if (not one) overflow_flag c f))) n))
ended past next c f n true one less = refl
ended past next c f n false true true = refl
ended past next c f n false true false = refl
ended past next c f n false false true = refl
ended past next c f n false false false = refl

-- behind the shift itself: the flags by a count below 32
pub flags-ended : (rule : FlagRule) (w : Width) (past : FlagSet) (next : ℕ) (c : Choice) (n : MachineState) (p q a v r x y : ℕ)
    → run_from (shift_ending rule w past next) 0 c n (temps p q a (v % 32) r x y)
    ≡ Next (at_address next (with_flags (flags_by_count past rule w a (v % 32) r c n.flags) n))
flags-ended rule w past next c n p q a v r x y =
    let f = flags_after rule w a (v % 32) r c n.flags in
    ap (λ t. ends past next c f n t (apply_op Eq B32 (v % 32) 1 == 0) (apply_op Ult B32 (v % 32) (bits_of w) == 0)) (zero-test v)
    ∙ ap (λ t. ends past next c f n (not (v % 32 == 0)) t (apply_op Ult B32 (v % 32) (bits_of w) == 0)) (equal-test v)
    ∙ ap (λ t. ends past next c f n (not (v % 32 == 0)) (not (v % 32 == 1)) t) (below-test v w)
    ∙ ended past next c f n (v % 32 == 0) (v % 32 == 1) (nat_lt (v % 32) (bits_of w))

pub shifted : (op : Op) (rule : FlagRule) (w : Width) (to count : Operand) (next : ℕ) (c : Choice) (m : MachineState)
    → run (places to count ++ shifting op rule w to count next) c m ≡ shift op rule w to count next c m
shifted op rule w to count next c m =
    let list = shifting op rule w to count next in
    run-two to count (drop 2 list) c m
    ∙ reading-same m to _ _ (λ a. reading-same m count _ _ (λ v.
    ap (λ x. run_from (drop 3 list) 0 c m (temps (place m to) (place m count) a x 0 0 0)) (masked v)
    ∙ kept-first to 4 (drop 5 list) c m (place m count) a (v % 32) (apply_op op w a (v % 32)) 0 0
    ∙ writing-same m to (apply_op op w a (v % 32)) _ _ (λ n. flags-ended rule w carry_flag next c n (place m to) (place m count) a v (apply_op op w a (v % 32)) 0 0)))

-- ---- double shifts

-- the width less a count
rest-of : (w : Width) (n : ℕ) → n < bits_of w → apply_op Sub B32 (bits_of w) n ≡ bits_of w - n
unfolding apply_op formula
rest-of B8 n less = omega arith
rest-of B16 n less = omega arith
rest-of B32 n less = omega arith

-- the result by the test of the count
shifts-or-free : (op other : Op) (w : Width) (a b n : ℕ) (c : Choice) (t : Bool) → nat_lt n (bits_of w) ≡ t
    → cond (not t) (cut w c.eax) (apply_op Or w (apply_op op w a n) (apply_op other w b (apply_op Sub B32 (bits_of w) n))) ≡ cond t (or_of_shifts op other w a b n) (cut w c.eax)
shifts-or-free op other w a b n c true e = ap (λ k. apply_op Or w (apply_op op w a n) (apply_op other w b k)) (rest-of w n (ltb-true n (bits_of w) e))
shifts-or-free op other w a b n c false e = refl

pub double-shifted : (op other : Op) (rule : FlagRule) (w : Width) (to : Operand) (r : ℕ) (count : Operand) (next : ℕ) (c : Choice) (m : MachineState)
    → run (places to count ++ double_shifting op other rule w to r count next) c m ≡ double_shift op other rule w to r count next c m
double-shifted op other rule w to r count next c m =
    let list = double_shifting op other rule w to r count next in
    let b = part w r m in
    run-two to count (drop 2 list) c m
    ∙ reading-same m to _ _ (λ a. reading-same m count _ _ (λ v.
    let n = v % 32 in
    let rest = apply_op Sub B32 (bits_of w) n in
    let less = apply_op Ult B32 n (bits_of w) in
    let both = apply_op Or w (apply_op op w a n) (apply_op other w b rest) in
    let result = double_result op other w a b n c in
    fetched-register w r 5 (drop 3 list) c m (temps (place m to) (place m count) a v 0 0 0)
    ∙ ap (λ x. run_from (drop 4 list) 0 c m (temps (place m to) (place m count) a x 0 b 0)) (masked v)
    ∙ inside (λ x. run_from (drop 11 list) 0 c m (temps (place m to) (place m count) a n x less rest)) (less == 0) (cut w c.eax) both
    ∙ ap (λ x. run_from (drop 11 list) 0 c m (temps (place m to) (place m count) a n x less rest))
    (ap (λ t. cond t (cut w c.eax) both) (below-test v w) ∙ shifts-or-free op other w a b n c (nat_lt n (bits_of w)) refl)
    ∙ kept-first to 4 (drop 12 list) c m (place m count) a n result less rest
    ∙ writing-same m to result _ _ (λ k. flags-ended rule w status_flags next c k (place m to) (place m count) a v result less rest)))

-- Exchanges with a comparison or a sum: the statements do what the instruction does.
use Rattle.std.proofs.Common.{◌≡◌, ℕ, ◌%◌, Bool, true, false, cond, not, ◌++◌, drop, refl, ◌∙◌, ap, ◌==◌, slice_index}
use Rattle.bit_words.specs.declared.width.Width.{Width}
use Rattle.bit_words.specs.declared.op.Op.TheVariants.{Add, Sub, Eq}
use Rattle.bit_words.specs.Width.{cut}
use Rattle.bit_words.specs.Operators.{apply_op, formula}
use Rattle.memory_map.specs.declared.choice.Choice.{Choice}
use Rattle.memory_map.specs.State.{MachineState}
use Rattle.memory_map.specs.declared.registers.TheConstants.{EAX}
use Rattle.x86_syntax.specs.declared.instr.Operand.{Operand}
use Rattle.x86_semantics.specs.Registers.{part, with_part}
use Rattle.x86_semantics.specs.Exchanges.{are_equal, with_accumulator_unless, compare_exchange, is_register_numbered, exchange_add}
use Rattle.statement_lang.specs.Run.{run, run_from}
use Rattle.x86_lifter.specs.Pieces.{places}
use Rattle.x86_lifter.specs.Lists.{none, comparing_exchange, adding_exchange, added_source}
use Rattle.x86_lifter.proofs.Places.{place, temps}
use Rattle.x86_lifter.proofs.ShiftMeaning.{one-if-zero}
use Rattle.x86_lifter.proofs.BitTestMeaning.{not-cond}
use Rattle.x86_lifter.proofs.Values.{run-one, fetched-register, kept-first, kept-register, reading-same, writing-same, inside}

differ-test : (w : Width) (a b : ℕ) → (apply_op Eq w a b == 0) ≡ not (are_equal w a b)
unfolding apply_op formula
differ-test w a b = one-if-zero (are_equal w a b)

-- a choice by the test is one by the equality
by-equality : {A : Type 0} (w : Width) (a b : ℕ) (x y : A) → cond (apply_op Eq w a b == 0) x y ≡ cond (are_equal w a b) y x
by-equality w a b x y = ap (λ t. cond t x y) (differ-test w a b) ∙ not-cond (are_equal w a b) x y

pub compared-exchanged : (at : Operand) (w : Width) (r next : ℕ) (c : Choice) (m : MachineState)
    → run (places at none ++ comparing_exchange at w r next) c m ≡ compare_exchange at w r next c m
compared-exchanged at w r next c m =
    let list = comparing_exchange at w r next in
    let whole = part w EAX m in
    let b = part w r m in
    run-one at none (drop 1 list) c m
    ∙ reading-same m at _ _ (λ a.
    let same = are_equal w whole a in
    let less = apply_op Sub w whole a in
    let test = apply_op Eq w whole a in
    let kept = cond same b a in
    let t = temps (place m at) 0 a whole kept less test in
    fetched-register w EAX 3 (drop 2 list) c m (temps (place m at) 0 a 0 0 0 0)
    ∙ fetched-register w r 4 (drop 3 list) c m (temps (place m at) 0 a whole 0 0 0)
    ∙ inside (λ x. run_from (drop 7 list) 0 c m (temps (place m at) 0 a whole x less test)) (test == 0) a b
    ∙ ap (λ x. run_from (drop 7 list) 0 c m (temps (place m at) 0 a whole x less test)) (by-equality w whole a a b)
    ∙ kept-first at 4 (drop 8 list) c m 0 a whole kept less test
    ∙ writing-same m at kept _ _ (λ n.
    ap (λ x. cond (test == 0) x (run_from (drop 10 list) 0 c n t)) (kept-register w EAX 2 (drop 10 list) c n t)
    ∙ inside (λ (k : MachineState). run_from (drop 10 list) 0 c k t) (test == 0) (with_part w EAX a n) n
    ∙ ap (λ k. run_from (drop 10 list) 0 c k t) (by-equality w whole a (with_part w EAX a n) n)))

-- the temporary that the register takes
added-value : (same : Bool) (p a b sum : ℕ) → slice_index (temps p 0 a b sum 0 0) (cond same 4 2 % 16) ≡ cond same sum a
added-value true p a b sum = refl
added-value false p a b sum = refl

pub exchanged-added : (at : Operand) (w : Width) (r next : ℕ) (c : Choice) (m : MachineState)
    → run (places at none ++ adding_exchange at w r next) c m ≡ exchange_add at w r next c m
exchanged-added at w r next c m =
    let list = adding_exchange at w r next in
    let b = part w r m in
    run-one at none (drop 1 list) c m
    ∙ reading-same m at _ _ (λ a.
    let sum = apply_op Add w a b in
    let t = temps (place m at) 0 a b sum 0 0 in
    fetched-register w r 3 (drop 2 list) c m (temps (place m at) 0 a 0 0 0 0)
    ∙ kept-first at 4 (drop 4 list) c m 0 a b sum 0 0
    ∙ writing-same m at sum _ _ (λ n.
    kept-register w r (added_source r at) (drop 5 list) c n t
    ∙ ap (λ v. run_from (drop 5 list) 0 c (with_part w r v n) t) (added-value (is_register_numbered r at) (place m at) a b sum)))

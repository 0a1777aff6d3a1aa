-- Products and quotients: the statements do what the instruction does.
use Rattle.std.proofs.Common.{◌≡◌, ℕ, Bool, ◌++◌, drop, ◌∙◌}
use Rattle.bit_words.specs.declared.width.Width.{Width}
use Rattle.bit_words.specs.declared.op.Op.{Op}
use Rattle.bit_words.specs.declared.op.Op.TheVariants.{Mul}
use Rattle.bit_words.specs.Operators.{apply_op}
use Rattle.memory_map.specs.declared.choice.Choice.{Choice}
use Rattle.memory_map.specs.State.{MachineState}
use Rattle.memory_map.specs.declared.registers.TheConstants.{EAX}
use Rattle.x86_syntax.specs.declared.instr.Operand.{Operand}
use Rattle.x86_semantics.specs.declared.flag_rule.FlagRule.{FlagRule}
use Rattle.x86_semantics.specs.declared.flag_rule.FlagRule.TheVariants.{SignedProduct}
use Rattle.x86_semantics.specs.Registers.{part, with_part, upper_register}
use Rattle.x86_semantics.specs.Products.{multiply_long, multiply, divide}
use Rattle.statement_lang.specs.Run.{run}
use Rattle.x86_lifter.specs.Pieces.{places, ending}
use Rattle.x86_lifter.specs.Lists.{none, multiplying_long, multiplying, dividing}
use Rattle.x86_lifter.proofs.Places.{place, temps}
use Rattle.x86_lifter.proofs.Values.{run-one, run-two, fetched-register, kept-register, reading-same}

pub multiplied-long : (high : Op) (rule : FlagRule) (w : Width) (from : Operand) (next : ℕ) (c : Choice) (m : MachineState)
    → run (places from none ++ multiplying_long high rule w from next) c m ≡ multiply_long high rule w from next c m
multiplied-long high rule w from next c m =
    let list = multiplying_long high rule w from next in
    let a = part w EAX m in
    run-one from none (drop 1 list) c m
    ∙ reading-same m from _ _ (λ b.
    let low = apply_op Mul w a b in
    let up = apply_op high w a b in
    fetched-register w EAX 3 (drop 2 list) c m (temps (place m from) 0 b 0 0 0 0)
    ∙ kept-register w EAX 4 (drop 5 list) c m (temps (place m from) 0 b a low up 0)
    ∙ kept-register w (upper_register w) 5 (ending rule w 3 2 4 next) c (with_part w EAX low m) (temps (place m from) 0 b a low up 0))

pub multiplied : (w : Width) (r : ℕ) (left right : Operand) (next : ℕ) (c : Choice) (m : MachineState)
    → run (places left right ++ multiplying w r left right next) c m ≡ multiply w r left right next c m
multiplied w r left right next c m =
    run-two left right (drop 2 (multiplying w r left right next)) c m
    ∙ reading-same m left _ _ (λ a. reading-same m right _ _ (λ b.
    kept-register w r 4 (ending SignedProduct w 2 3 4 next) c m (temps (place m left) (place m right) a b (apply_op Mul w a b) 0 0)))

pub divided-by : (signed : Bool) (w : Width) (by : Operand) (next : ℕ) (c : Choice) (m : MachineState)
    → run (places by none ++ dividing signed w by next) c m ≡ divide signed w by next c m
divided-by signed w by next c m = run-one by none (drop 1 (dividing signed w by next)) c m

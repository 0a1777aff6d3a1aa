-- Sums, differences and logic: the statements do what the instruction does.
use Rattle.std.proofs.Common.{◌≡◌, ℕ, ◌∷◌, ◌++◌, drop, ◌∙◌}
use Rattle.bit_words.specs.declared.width.Width.{Width}
use Rattle.bit_words.specs.declared.op.Op.{Op}
use Rattle.bit_words.specs.Operators.{apply_op, one_if}
use Rattle.memory_map.specs.declared.choice.Choice.{Choice}
use Rattle.memory_map.specs.State.{MachineState}
use Rattle.x86_syntax.specs.declared.instr.Operand.{Operand}
use Rattle.x86_semantics.specs.declared.flag_rule.FlagRule.{FlagRule}
use Rattle.x86_semantics.specs.Arithmetic.{combine, carry, carried, compare}
use Rattle.statement_lang.specs.Run.{run, run_from}
use Rattle.x86_lifter.specs.Pieces.{places, keeping, ending}
use Rattle.x86_lifter.specs.Lists.{combining, carrying, comparing}
use Rattle.x86_lifter.proofs.Places.{place, temps}
use Rattle.x86_lifter.proofs.Values.{run-two, kept-first, reading-same, inside}

pub combined : (op : Op) (rule : FlagRule) (w : Width) (to from : Operand) (next : ℕ) (c : Choice) (m : MachineState)
    → run (places to from ++ combining op rule w to from next) c m ≡ combine op rule w to from next c m
combined op rule w to from next c m =
    run-two to from (drop 2 (combining op rule w to from next)) c m
    ∙ reading-same m to _ _ (λ a. reading-same m from _ _ (λ b. kept-first to 4 (ending rule w 2 3 4 next) c m (place m from) a b (apply_op op w a b) 0 0))

pub compared : (op : Op) (rule : FlagRule) (w : Width) (left right : Operand) (next : ℕ) (c : Choice) (m : MachineState)
    → run (places left right ++ comparing op rule w left right next) c m ≡ compare op rule w left right next c m
compared op rule w left right next c m = run-two left right (drop 2 (comparing op rule w left right next)) c m

pub carried-on : (op : Op) (rule : FlagRule) (w : Width) (to from : Operand) (next : ℕ) (c : Choice) (m : MachineState)
    → run (places to from ++ carrying op rule w to from next) c m ≡ carry op rule w to from next c m
carried-on op rule w to from next c m =
    run-two to from (drop 2 (carrying op rule w to from next)) c m
    ∙ reading-same m to _ _ (λ a. reading-same m from _ _ (λ b.
    inside (λ n. run_from (keeping to 0 4 ∷ ending rule w 2 3 4 next) 0 c m (temps (place m to) (place m from) a b (apply_op op w (apply_op op w a b) n) n 0)) m.flags.carry 1 0
    ∙ kept-first to 4 (ending rule w 2 3 4 next) c m (place m from) a b (carried op w a b m) (one_if m.flags.carry) 0))

-- Single flags and the status byte: the statements do what the instruction does.
use Rattle.std.proofs.Common.{◌≡◌, ℕ, ◌+◌, ◌*◌, Bool, true, false, cond, [], ◌∷◌, refl}
use Rattle.bit_words.specs.declared.width.Width.TheVariants.{B8, B32}
use Rattle.bit_words.specs.declared.op.Op.TheVariants.{Add}
use Rattle.bit_words.specs.Operators.{apply_op, formula, one_if}
use Rattle.memory_map.specs.declared.choice.Choice.{Choice}
use Rattle.memory_map.specs.State.{MachineState}
use Rattle.x86_semantics.specs.declared.operation.FlagChange.{FlagChange}
use Rattle.x86_semantics.specs.declared.operation.FlagChange.TheVariants.{FlipCarry, ClearCarry, SetCarry, ClearDirection, SetDirection}
use Rattle.x86_semantics.specs.Registers.{with_part}
use Rattle.x86_semantics.specs.Operands.{Ended, Next, at_address}
use Rattle.x86_semantics.specs.Bits.{change_flag, load_status, store_status}
use Rattle.x86_semantics.specs.declared.parts.TheConstants.{AH}
use Rattle.statement_lang.specs.declared.stmt.Source.TheVariants as sources
use Rattle.statement_lang.specs.declared.stmt.Stmt.TheVariants.{Goto}
use Rattle.statement_lang.specs.Run.{run}
use Rattle.x86_lifter.specs.Lists.{changing, loading_status, storing_status}

pub flag-changed : (change : FlagChange) (next : ℕ) (c : Choice) (m : MachineState)
    → run (changing change ∷ Goto (sources.Number next) ∷ []) c m ≡ change_flag change next m
unfolding run
flag-changed FlipCarry next c m = refl
flag-changed ClearCarry next c m = refl
flag-changed SetCarry next c m = refl
flag-changed ClearDirection next c m = refl
flag-changed SetDirection next c m = refl

pub status-stored : (next : ℕ) (c : Choice) (m : MachineState) → run (storing_status next) c m ≡ store_status next m
unfolding run
status-stored next c m = refl

-- five choices one after another, each of which adds its bit
choices : (k : ℕ → Ended) (c p a z s : Bool) →
    cond c (cond p (cond a (cond z (cond s (k (apply_op Add B32 (apply_op Add B32 (apply_op Add B32 (apply_op Add B32 (apply_op Add B32 2 1) 4) 16) 64) 128)) (k (apply_op Add B32 (apply_op Add B32 (apply_op Add B32 (apply_op Add B32 2 1) 4) 16) 64))) (cond s (k (apply_op Add B32 (apply_op Add B32 (apply_op Add B32 (apply_op Add B32 2 1) 4) 16) 128)) (k (apply_op Add B32 (apply_op Add B32 (apply_op Add B32 2 1) 4) 16)))) (cond z (cond s (k (apply_op Add B32 (apply_op Add B32 (apply_op Add B32 (apply_op Add B32 2 1) 4) 64) 128)) (k (apply_op Add B32 (apply_op Add B32 (apply_op Add B32 2 1) 4) 64))) (cond s (k (apply_op Add B32 (apply_op Add B32 (apply_op Add B32 2 1) 4) 128)) (k (apply_op Add B32 (apply_op Add B32 2 1) 4))))) (cond a (cond z (cond s (k (apply_op Add B32 (apply_op Add B32 (apply_op Add B32 (apply_op Add B32 2 1) 16) 64) 128)) (k (apply_op Add B32 (apply_op Add B32 (apply_op Add B32 2 1) 16) 64))) (cond s (k (apply_op Add B32 (apply_op Add B32 (apply_op Add B32 2 1) 16) 128)) (k (apply_op Add B32 (apply_op Add B32 2 1) 16)))) (cond z (cond s (k (apply_op Add B32 (apply_op Add B32 (apply_op Add B32 2 1) 64) 128)) (k (apply_op Add B32 (apply_op Add B32 2 1) 64))) (cond s (k (apply_op Add B32 (apply_op Add B32 2 1) 128)) (k (apply_op Add B32 2 1)))))) (cond p (cond a (cond z (cond s (k (apply_op Add B32 (apply_op Add B32 (apply_op Add B32 (apply_op Add B32 2 4) 16) 64) 128)) (k (apply_op Add B32 (apply_op Add B32 (apply_op Add B32 2 4) 16) 64))) (cond s (k (apply_op Add B32 (apply_op Add B32 (apply_op Add B32 2 4) 16) 128)) (k (apply_op Add B32 (apply_op Add B32 2 4) 16)))) (cond z (cond s (k (apply_op Add B32 (apply_op Add B32 (apply_op Add B32 2 4) 64) 128)) (k (apply_op Add B32 (apply_op Add B32 2 4) 64))) (cond s (k (apply_op Add B32 (apply_op Add B32 2 4) 128)) (k (apply_op Add B32 2 4))))) (cond a (cond z (cond s (k (apply_op Add B32 (apply_op Add B32 (apply_op Add B32 2 16) 64) 128)) (k (apply_op Add B32 (apply_op Add B32 2 16) 64))) (cond s (k (apply_op Add B32 (apply_op Add B32 2 16) 128)) (k (apply_op Add B32 2 16)))) (cond z (cond s (k (apply_op Add B32 (apply_op Add B32 2 64) 128)) (k (apply_op Add B32 2 64))) (cond s (k (apply_op Add B32 2 128)) (k 2))))) ≡ k (2 + one_if c + 4 * one_if p + 16 * one_if a + 64 * one_if z + 128 * one_if s)
unfolding apply_op formula
choices k true true true true true = refl
choices k true true true true false = refl
choices k true true true false true = refl
choices k true true true false false = refl
choices k true true false true true = refl
choices k true true false true false = refl
choices k true true false false true = refl
choices k true true false false false = refl
choices k true false true true true = refl
choices k true false true true false = refl
choices k true false true false true = refl
choices k true false true false false = refl
choices k true false false true true = refl
choices k true false false true false = refl
choices k true false false false true = refl
choices k true false false false false = refl
choices k false true true true true = refl
choices k false true true true false = refl
choices k false true true false true = refl
choices k false true true false false = refl
choices k false true false true true = refl
choices k false true false true false = refl
choices k false true false false true = refl
choices k false true false false false = refl
choices k false false true true true = refl
choices k false false true true false = refl
choices k false false true false true = refl
choices k false false true false false = refl
choices k false false false true true = refl
choices k false false false true false = refl
choices k false false false false true = refl
choices k false false false false false = refl

pub status-loaded : (next : ℕ) (c : Choice) (m : MachineState) → run (loading_status next) c m ≡ load_status next m
unfolding run
status-loaded next c m =
    choices (λ n. Next (at_address next (with_part B8 AH n m))) m.flags.carry m.flags.parity m.flags.adjust m.flags.zero m.flags.sign

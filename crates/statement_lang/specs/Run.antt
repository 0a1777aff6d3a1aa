-- What statements do. The state is the machine's, and beside it there are sixteen temporaries, which begin at 0.
use Rattle.std.specs.Prelude.{ℕ, zero, suc, ◌%◌, Bool, true, not, ◌&&◌, ◌==◌, if◌then◌else◌, List, [], ◌∷◌, slice_index, slice_set}
use Rattle.bit_words.specs.Width.{cut}
use Rattle.bit_words.specs.Operators.{apply_op}
use Rattle.bit_words.specs.declared.flags.Flags.{Flags as FlagSet}
use Rattle.bit_words.specs.Flags.{carry_of, parity_of, adjust_of, zero_of, sign_of, overflow_of, direction_of}
use Rattle.memory_map.specs.declared.choice.Choice.{Choice}
use Rattle.memory_map.specs.State.{MachineState, Flags}
use Rattle.x86_semantics.specs.Condition.{is_met}
use Rattle.x86_semantics.specs.Registers.{register, with_register}
use Rattle.x86_semantics.specs.FlagRules.{ruled, freed}
use Rattle.x86_semantics.specs.Operands.{Ended, Next, Faulted, at_address, with_flags, segment_base, loading, storing}
use Rattle.x86_semantics.specs.Products.{divided, on_divided}
use Rattle.statement_lang.specs.declared.stmt.Source.{Source}
use Rattle.statement_lang.specs.declared.stmt.Source.TheVariants.{Register, Temp, Number, Base}
use Rattle.statement_lang.specs.declared.stmt.Test.{Test}
use Rattle.statement_lang.specs.declared.stmt.Test.TheVariants.{Condition, Zero, Flag}
use Rattle.statement_lang.specs.declared.stmt.Stmt.{Stmt}
use Rattle.statement_lang.specs.declared.stmt.Stmt.TheVariants.{Put, Copy, SetFlags, SetFlag, Load, Store, Choose, FreeFlags, Divide, SkipUnless, Stop, Goto, Branch}
use Rattle.statement_lang.specs.declared.stmt.Ran.{Ran}
use Rattle.statement_lang.specs.declared.stmt.Ran.TheVariants as ran

-- ---- values and tests

abbrev pub Temps : Type 0
Temps = List ℕ

abbrev pub zeros : Temps
zeros = 0 ∷ 0 ∷ 0 ∷ 0 ∷ 0 ∷ 0 ∷ 0 ∷ 0 ∷ 0 ∷ 0 ∷ 0 ∷ 0 ∷ 0 ∷ 0 ∷ 0 ∷ 0 ∷ []

abbrev pub value_of : MachineState → Temps → Source → ℕ
value_of m t (Register r) = register r m
value_of m t (Temp k) = slice_index t (k % 16)
value_of m t (Number n) = n
value_of m t (Base seg) = segment_base seg m

-- a flag as told, where it is asked about, beside others
abbrev pub agreeing : Bool → Bool → Bool → Bool → Bool
agreeing asked told flag others = if asked then others && (if told then flag else not flag) else others

-- whether each flag of a set is b
abbrev pub all_are : FlagSet → Bool → Flags → Bool
all_are which b f =
    agreeing (carry_of which) b f.carry
    (agreeing (parity_of which) b f.parity
    (agreeing (adjust_of which) b f.adjust
    (agreeing (zero_of which) b f.zero
    (agreeing (sign_of which) b f.sign
    (agreeing (overflow_of which) b f.overflow
    (agreeing (direction_of which) b f.direction true))))))

abbrev pub holds : MachineState → Temps → Test → Bool
holds m t (Condition c) = is_met c m.flags
holds m t (Zero s) = value_of m t s == 0
holds m t (Flag which b) = all_are which b m.flags

-- the flags of a set become b
abbrev pub set_to : FlagSet → Bool → Flags → Flags
set_to which b f = record {
  carry = if carry_of which then b else f.carry;
  parity = if parity_of which then b else f.parity;
  adjust = if adjust_of which then b else f.adjust;
  zero = if zero_of which then b else f.zero;
  sign = if sign_of which then b else f.sign;
  overflow = if overflow_of which then b else f.overflow;
  direction = if direction_of which then b else f.direction;
}

-- ---- one statement, and what goes on from its state, temporaries and count of statements to pass over

abbrev pub Going : Type 0
Going = MachineState → Temps → ℕ → Ended

-- a value given to a register or a temporary
abbrev pub giving : Source → ℕ → MachineState → Temps → Going → Ended
giving (Register r) v m t go = go (with_register r v m) t 0
giving (Temp k) v m t go = go m (slice_set t (k % 16) v) 0
giving (Number n) v m t go = go m t 0
giving (Base seg) v m t go = go m t 0

abbrev pub doing : Stmt → Choice → MachineState → Temps → Going → Ended
doing (Put to op w a b) c m t go = giving to (apply_op op w (value_of m t a) (value_of m t b)) m t go
doing (Copy to from) c m t go = giving to (value_of m t from) m t go
doing (SetFlags rule w a b r) c m t go = go (with_flags (ruled rule w (value_of m t a) (value_of m t b) (value_of m t r) m.flags) m) t 0
doing (SetFlag flag to) c m t go = go (with_flags (set_to flag (holds m t to) m.flags) m) t 0
doing (Load to w at) c m t go = loading m w (value_of m t at) (λ v. giving to v m t go)
doing (Store at w from) c m t go = storing m w (value_of m t at) (value_of m t from) (λ n. go n t 0)
doing (Choose to w) c m t go = giving to (cut w c.eax) m t go
doing (FreeFlags which) c m t go = go (with_flags (freed which c m.flags) m) t 0
doing (Divide signed w by) c m t go = on_divided m (divided signed w (value_of m t by) m) (λ n. go n t 0)
doing (SkipUnless test count) c m t go = if holds m t test then go m t 0 else go m t count
doing (Stop kind) c m t go = Faulted kind m
doing (Goto to) c m t go = go (at_address (value_of m t to) m) t 0
doing (Branch test there here) c m t go = go (at_address (if holds m t test then there else here) m) t 0

-- ---- a list of statements, of which the first `skip` are passed over

abbrev pub run_from : List Stmt → ℕ → Choice → MachineState → Temps → Ended
run_from [] skip c m t = Next m
run_from (s ∷ ss) zero c m t = doing s c m t (λ n u k. run_from ss k c n u)
run_from (s ∷ ss) (suc skip) c m t = run_from ss skip c m t

-- a fault leaves what was done before it
unfoldable pub run : List Stmt → Choice → MachineState → Ended
run list c m = run_from list 0 c m zeros

-- an answer with the state that it left
abbrev pub ended_as : Ran → MachineState → Ended
ended_as ran.Next m = Next m
ended_as (ran.Faulted kind) m = Faulted kind m

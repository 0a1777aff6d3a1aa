-- A fault leaves the state as it was.
use Rattle.std.proofs.Common.{◌≡◌, ℕ, Bool, true, false, cond, Option, None, Some, refl, ◌==◌}
use Rattle.bit_words.specs.declared.width.Width.{Width}
use Rattle.memory_map.specs.declared.choice.Choice.{Choice}
use Rattle.memory_map.specs.State.{MachineState}
use Rattle.memory_map.specs.declared.registers.TheConstants.{ECX}
use Rattle.x86_syntax.specs.declared.instr.Instr.{Instr}
use Rattle.x86_syntax.specs.declared.instr.Seg.{Seg}
use Rattle.x86_syntax.specs.declared.instr.Repeat.{Repeat}
use Rattle.x86_syntax.specs.declared.instr.Repeat.TheVariants.{Once, Rep, Repe, Repne}
use Rattle.x86_syntax.specs.declared.instr.Operand.{Operand}
use Rattle.x86_syntax.specs.declared.instr.Operand.TheVariants.{Register, Number, Memory, Offset}
use Rattle.x86_semantics.specs.declared.operation.StringKind.{StringKind}
use Rattle.x86_semantics.specs.declared.operation.StringKind.TheVariants as kinds
use Rattle.x86_semantics.specs.declared.operation.Operation.{Operation}
use Rattle.x86_semantics.specs.declared.operation.Operation.TheVariants.{Combine, Carry, Compare, Move, Convert, Lea, Exchange, Shift, DoubleShift, TestBit, FindBit, CompareExchange, ExchangeAdd, MultiplyLong, Multiply, Divide, Jump, Goto, Loop, JumpIfNoCount, Call, Return, Push, Pop, Leave, Set, MoveIf, Flag, LoadStatus, StoreStatus, Element, Nothing, Stop}
use Rattle.x86_semantics.specs.Condition.{is_met}
use Rattle.x86_semantics.specs.Memory.{word_at, stored}
use Rattle.x86_semantics.specs.Registers.{register}
use Rattle.x86_semantics.specs.Operands.{Ended, Next, on_word, on_stored, address_of, loading, storing, reading, writing}
use Rattle.x86_semantics.specs.Moves.{pop_into}
use Rattle.x86_semantics.specs.Flow.{targeting}
use Rattle.x86_semantics.specs.Products.{divided, on_divided}
use Rattle.x86_semantics.specs.Strings.{element, step_of, string, repeated}
use Rattle.x86_semantics.specs.Operations.{operation_of}
use Rattle.x86_semantics.specs.Does.{done, does, ended, result_of}

-- an end in the next state, or in a fault that leaves m
pub record Keeps (m : MachineState) (r : Ended) : Type 0 where
  pub is : r ≡ ended m (result_of r)

pub next-keeps : (m n : MachineState) → Keeps m (Next n)
next-keeps m n = record { is = refl }

on-word-keeps : (m : MachineState) (o : Option ℕ) (k : ℕ → Ended) → ((v : ℕ) → Keeps m (k v)) → Keeps m (on_word m o k)
on-word-keeps m None k h = record { is = refl }
on-word-keeps m (Some v) k h = h v

on-stored-keeps : (m : MachineState) (o : Option MachineState) (k : MachineState → Ended) → ((n : MachineState) → Keeps m (k n)) → Keeps m (on_stored m o k)
on-stored-keeps m None k h = record { is = refl }
on-stored-keeps m (Some n) k h = h n

on-divided-keeps : (m : MachineState) (o : Option MachineState) (k : MachineState → Ended) → ((n : MachineState) → Keeps m (k n)) → Keeps m (on_divided m o k)
on-divided-keeps m None k h = record { is = refl }
on-divided-keeps m (Some n) k h = h n

choice-keeps : (m : MachineState) (b : Bool) (x y : Ended) → Keeps m x → Keeps m y → Keeps m (cond b x y)
choice-keeps m true x y h g = h
choice-keeps m false x y h g = g

loads : (m : MachineState) (w : Width) (a : ℕ) (k : ℕ → Ended) → ((v : ℕ) → Keeps m (k v)) → Keeps m (loading m w a k)
loads m w a k h = on-word-keeps m (word_at w a m) k h

stores : (m : MachineState) (w : Width) (a v : ℕ) (k : MachineState → Ended) → ((n : MachineState) → Keeps m (k n)) → Keeps m (storing m w a v k)
stores m w a v k h = on-stored-keeps m (stored w a v m) k h

reads : (m : MachineState) (op : Operand) (k : ℕ → Ended) → ((v : ℕ) → Keeps m (k v)) → Keeps m (reading m op k)
reads m (Register w r) k h = h _
reads m (Number w n) k h = h _
reads m (Memory w a) k h = loads m w (address_of a m) k h
reads m (Offset o) k h = h _

writes : (m : MachineState) (op : Operand) (v : ℕ) (k : MachineState → Ended) → ((n : MachineState) → Keeps m (k n)) → Keeps m (writing m op v k)
writes m (Register w r) v k h = h _
writes m (Number w n) v k h = h _
writes m (Memory w a) v k h = stores m w (address_of a m) v k h
writes m (Offset o) v k h = h _

targets : (m : MachineState) (op : Operand) (n : ℕ) (k : ℕ → Ended) → ((v : ℕ) → Keeps m (k v)) → Keeps m (targeting m op n k)
targets m (Register w r) n k h = h _
targets m (Number w x) n k h = h _
targets m (Memory w a) n k h = loads m w (address_of a m) k h
targets m (Offset o) n k h = h _

pops : (to : Operand) (v next : ℕ) (m : MachineState) → Keeps m (pop_into to v next m)
pops (Register w r) v next m = next-keeps m _
pops (Number w n) v next m = next-keeps m _
pops (Memory w a) v next m = stores m w _ v _ (λ n. next-keeps m _)
pops (Offset o) v next m = next-keeps m _

elements : (kind : StringKind) (w : Width) (seg : Seg) (step : ℕ) (c : Choice) (m : MachineState) (k : MachineState → Ended) → ((n : MachineState) → Keeps m (k n))
    → Keeps m (element kind w seg step c m k)
elements kinds.Move w seg step c m k h = loads m w _ _ (λ v. stores m w _ v _ (λ n. h _))
elements kinds.Compare w seg step c m k h = loads m w _ _ (λ v. loads m w _ _ (λ u. h _))
elements kinds.Store w seg step c m k h = stores m w _ _ _ (λ n. h _)
elements kinds.Load w seg step c m k h = loads m w _ _ (λ v. h _)
elements kinds.Scan w seg step c m k h = loads m w _ _ (λ v. h _)

repeats : (again : Repeat) (kind : StringKind) (w : Width) (seg : Seg) (next : ℕ) (c : Choice) (m : MachineState) → Keeps m (repeated again kind w seg next c m)
repeats again kind w seg next c m =
    choice-keeps m (register ECX m == 0) _ _ (next-keeps m _) (elements kind w seg (step_of w m.flags) c m _ (λ n. next-keeps m _))

strings : (kind : StringKind) (w : Width) (seg : Seg) (again : Repeat) (next : ℕ) (c : Choice) (m : MachineState) → Keeps m (string kind w seg again next c m)
strings kind w seg Once next c m = elements kind w seg (step_of w m.flags) c m _ (λ n. next-keeps m _)
strings kind w seg Rep next c m = repeats Rep kind w seg next c m
strings kind w seg Repe next c m = repeats Repe kind w seg next c m
strings kind w seg Repne next c m = repeats Repne kind w seg next c m

pub keeps : (op : Operation) (n : ℕ) (c : Choice) (m : MachineState) → Keeps m (done op n c m)
keeps (Combine op rule w to from) n c m = reads m to _ (λ a. reads m from _ (λ b. writes m to _ _ (λ p. next-keeps m _)))
keeps (Carry op rule w to from) n c m = reads m to _ (λ a. reads m from _ (λ b. writes m to _ _ (λ p. next-keeps m _)))
keeps (Compare op rule w left right) n c m = reads m left _ (λ a. reads m right _ (λ b. next-keeps m _))
keeps (Move to from) n c m = reads m from _ (λ v. writes m to _ _ (λ p. next-keeps m _))
keeps (Convert op w to from by) n c m = reads m from _ (λ v. writes m to _ _ (λ p. next-keeps m _))
keeps (Lea to address) n c m = writes m to _ _ (λ p. next-keeps m _)
keeps (Exchange at w r) n c m = reads m at _ (λ a. writes m at _ _ (λ p. next-keeps m _))
keeps (Shift op rule w to count) n c m = reads m to _ (λ a. reads m count _ (λ v. writes m to _ _ (λ p. next-keeps m _)))
keeps (DoubleShift op other rule w to r count) n c m = reads m to _ (λ a. reads m count _ (λ v. writes m to _ _ (λ p. next-keeps m _)))
keeps (TestBit change w r index) n c m = reads m index _ (λ v. next-keeps m _)
keeps (FindBit op w r from) n c m = reads m from _ (λ b. next-keeps m _)
keeps (CompareExchange at w r) n c m = reads m at _ (λ a. writes m at _ _ (λ p. next-keeps m _))
keeps (ExchangeAdd at w r) n c m = reads m at _ (λ a. writes m at _ _ (λ p. next-keeps m _))
keeps (MultiplyLong high rule w from) n c m = reads m from _ (λ b. next-keeps m _)
keeps (Multiply w r left right) n c m = reads m left _ (λ a. reads m right _ (λ b. next-keeps m _))
keeps (Divide signed w by) n c m = reads m by _ (λ d. on-divided-keeps m (divided signed w d m) _ (λ p. next-keeps m _))
keeps (Jump cc offset) n c m = next-keeps m _
keeps (Goto target) n c m = targets m target n _ (λ a. next-keeps m _)
keeps (Loop kind offset) n c m = next-keeps m _
keeps (JumpIfNoCount offset) n c m = next-keeps m _
keeps (Call target) n c m = targets m target n _ (λ a. stores m _ _ _ _ (λ p. next-keeps m _))
keeps (Return extra) n c m = loads m _ _ _ (λ a. next-keeps m _)
keeps (Push from) n c m = reads m from _ (λ v. stores m _ _ _ _ (λ p. next-keeps m _))
keeps (Pop to) n c m = loads m _ _ _ (λ v. pops to v _ m)
keeps Leave n c m = loads m _ _ _ (λ v. next-keeps m _)
keeps (Set cc to) n c m = writes m to _ _ (λ p. next-keeps m _)
keeps (MoveIf cc to from) n c m = reads m from _ (λ v. choice-keeps m (is_met cc m.flags) _ _ (writes m to _ _ (λ p. next-keeps m _)) (next-keeps m _))
keeps (Flag change) n c m = next-keeps m _
keeps LoadStatus n c m = next-keeps m _
keeps StoreStatus n c m = next-keeps m _
keeps (Element kind w seg again) n c m = strings kind w seg again _ c m
keeps Nothing n c m = next-keeps m _
keeps (Stop kind) n c m = record { is = refl }

-- how an instruction ends, by its outcome
pub done-is : (i : Instr) (n : ℕ) (c : Choice) (m : MachineState) → done (operation_of i) n c m ≡ ended m (does i n c m)
unfolding does
done-is i n c m = (keeps (operation_of i) n c m).is

-- Every operation ends as its first fault says.
use Rattle.std.proofs.Common.{◌≡◌, ℕ, Bool, List, [], Some, None, refl, sym, subst, true, false, cond}
use Rattle.std.specs.Prelude.{◌&&◌, ◌==◌, ◌/◌, ◌^◌, not, nat_lt, int_div}
use Rattle.bit_words.specs.declared.width.Width.{Width}
use Rattle.bit_words.specs.declared.width.Width.TheVariants.{B32}
use Rattle.bit_words.specs.Width.{bits_of, cut, is_signed, signed_of}
use Rattle.memory_map.specs.declared.choice.Choice.{Choice}
use Rattle.memory_map.specs.declared.fault.FaultKind.TheVariants as kinds
use Rattle.memory_map.specs.State.{MachineState}
use Rattle.memory_map.specs.declared.registers.TheConstants.{ECX, ESP, EBP, EDI}
use Rattle.x86_syntax.specs.declared.instr.Operand.{Operand}
use Rattle.x86_syntax.specs.declared.instr.Operand.TheVariants.{Register, Number, Memory, Offset}
use Rattle.x86_syntax.specs.declared.instr.Repeat.{Repeat}
use Rattle.x86_syntax.specs.declared.instr.Repeat.TheVariants.{Once, Rep, Repe, Repne}
use Rattle.x86_syntax.specs.declared.instr.Seg.{Seg}
use Rattle.x86_syntax.specs.Text.{next_address}
use Rattle.x86_semantics.specs.declared.operation.Operation.{Operation}
use Rattle.x86_semantics.specs.declared.operation.Operation.TheVariants.{Combine, Carry, Compare, Move, Convert, Lea, Exchange, Shift, DoubleShift, TestBit, FindBit, CompareExchange, ExchangeAdd, MultiplyLong, Multiply, Divide, Jump, Goto, Loop, JumpIfNoCount, Call, Return, Push, Pop, Leave, Set, MoveIf, Flag, LoadStatus, StoreStatus, Element, Nothing, Stop}
use Rattle.x86_semantics.specs.declared.operation.StringKind.{StringKind}
use Rattle.x86_semantics.specs.declared.operation.StringKind.TheVariants as strings
use Rattle.x86_semantics.specs.Condition.{is_met}
use Rattle.x86_semantics.specs.Does.{done}
use Rattle.x86_semantics.specs.Moves.{below, pop_into, popped}
use Rattle.x86_semantics.specs.Operands.{Ended, Next, address_of}
use Rattle.x86_semantics.specs.Products.{divided, dividend, on_divided, signed_dividend}
use Rattle.x86_semantics.specs.Registers.{register}
use Rattle.x86_semantics.specs.Strings.{counted, element, source_address, step_of, string}
use Rattle.x86_machine.specs.Faults.{Access, destination, element_reads, element_writes, first_fault, fits, operand, value_of}
use Rattle.x86_machine.proofs.Accesses.{EndsBy, last_reading_ends, last_valued_ends, loading_ends, reading_ends, storing_ends, targeting_ends, unread, unwritten, writing_ends}

-- ---- the stack

popping_ends : (to : Operand) (v next : ℕ) (m : MachineState) → EndsBy (unwritten m (operand (popped m) to)) (pop_into to v next m)
popping_ends (Register w r) v next m = tt
popping_ends (Number w n) v next m = tt
popping_ends (Memory w a) v next m = storing_ends m w (address_of a (popped m)) v _ (λ p. tt)
popping_ends (Offset o) v next m = tt

-- ---- quotients

on_divided_ends : (is_zero ok : Bool) (m n : MachineState) (k : MachineState → Ended) → ((p : MachineState) → EndsBy None (k p))
    → EndsBy (cond (not (not is_zero && ok)) (Some kinds.Divide) None) (on_divided m (cond is_zero None (cond ok (Some n) None)) k)
on_divided_ends true ok m n k each = refl
on_divided_ends false true m n k each = each n
on_divided_ends false false m n k each = refl

dividing_ends : (signed : Bool) (w : Width) (d : ℕ) (m : MachineState) (k : MachineState → Ended) → ((p : MachineState) → EndsBy None (k p))
    → EndsBy (cond (not (not (cut w d == 0) && fits signed w d m)) (Some kinds.Divide) None) (on_divided m (divided signed w d m) k)
unfolding divided
dividing_ends true w d m k each = on_divided_ends (cut w d == 0) (is_signed w (int_div (signed_dividend w m) (signed_of w d))) m _ k each
dividing_ends false w d m k each = on_divided_ends (cut w d == 0) (nat_lt (dividend w m / cut w d) (2 ^ bits_of w)) m _ k each

-- the divisor is an operand's value
divisor_ends : (signed : Bool) (w : Width) (v d : ℕ) (m : MachineState) (k : MachineState → Ended) → ((p : MachineState) → EndsBy None (k p)) → v ≡ d
    → EndsBy (cond (not (not (cut w v == 0) && fits signed w v m)) (Some kinds.Divide) None) (on_divided m (divided signed w d m) k)
divisor_ends signed w v d m k each is =
    subst (λ (x : ℕ). EndsBy (cond (not (not (cut w x == 0) && fits signed w x m)) (Some kinds.Divide) None) (on_divided m (divided signed w d m) k)) (sym is)
    (dividing_ends signed w d m k each)

-- ---- string operations

element_ends : (kind : StringKind) (w : Width) (seg : Seg) (step : ℕ) (choice : Choice) (m : MachineState) (k : MachineState → Ended) → ((p : MachineState) → EndsBy None (k p))
    → EndsBy (unread m (element_reads kind w seg m) (unwritten m (element_writes kind w m))) (element kind w seg step choice m k)
element_ends strings.Move w seg step choice m k each =
    loading_ends m w (source_address seg m) [] _ _ (λ v e. storing_ends m w (register EDI m) v _ (λ p. each _))
element_ends strings.Compare w seg step choice m k each =
    loading_ends m w (source_address seg m) (destination w m) _ _ (λ a e. loading_ends m w (register EDI m) [] _ _ (λ b e. each _))
element_ends strings.Store w seg step choice m k each = storing_ends m w (register EDI m) _ _ (λ p. each _)
element_ends strings.Load w seg step choice m k each = loading_ends m w (source_address seg m) [] _ _ (λ v e. each _)
element_ends strings.Scan w seg step choice m k each = loading_ends m w (register EDI m) [] _ _ (λ v e. each _)

over_ends : (b : Bool) (m n : MachineState) (xs ys : List Access) (e : Ended) → EndsBy (unread m xs (unwritten m ys)) e
    → EndsBy (unread m (cond b [] xs) (unwritten m (cond b [] ys))) (cond b (Next n) e)
over_ends true m n xs ys e h = tt
over_ends false m n xs ys e h = h

repeated_ends : (repetition : Repeat) (kind : StringKind) (w : Width) (seg : Seg) (next : ℕ) (choice : Choice) (m : MachineState)
    → EndsBy (unread m (element_reads kind w seg m) (unwritten m (element_writes kind w m))) (element kind w seg (step_of w m.flags) choice m (counted repetition next m.eip))
repeated_ends repetition kind w seg next choice m = element_ends kind w seg _ choice m _ (λ p. tt)

string_ends : (kind : StringKind) (w : Width) (seg : Seg) (times : Repeat) (n : ℕ) (choice : Choice) (m : MachineState)
    → EndsBy (first_fault (Element kind w seg times) m) (string kind w seg times n choice m)
string_ends kind w seg Once n choice m = element_ends kind w seg _ choice m _ (λ p. tt)
string_ends kind w seg Rep n choice m = over_ends (register ECX m == 0) m _ _ _ _ (repeated_ends Rep kind w seg n choice m)
string_ends kind w seg Repe n choice m = over_ends (register ECX m == 0) m _ _ _ _ (repeated_ends Repe kind w seg n choice m)
string_ends kind w seg Repne n choice m = over_ends (register ECX m == 0) m _ _ _ _ (repeated_ends Repne kind w seg n choice m)

-- ---- all operations

met_ends : (b : Bool) (m n : MachineState) (xs : List Access) (e : Ended) → EndsBy (unwritten m xs) e → EndsBy (unwritten m (cond b xs [])) (cond b e (Next n))
met_ends true m n xs e h = h
met_ends false m n xs e h = tt

pub ends_by_fault : (op : Operation) (n : ℕ) (choice : Choice) (m : MachineState) → EndsBy (first_fault op m) (done op n choice m)
ends_by_fault (Combine op rule w to from) n choice m =
    reading_ends m to (operand m from) _ _ (λ a. last_reading_ends m from _ _ (λ b. writing_ends m to _ _ (λ p. tt)))
ends_by_fault (Carry op rule w to from) n choice m =
    reading_ends m to (operand m from) _ _ (λ a. last_reading_ends m from _ _ (λ b. writing_ends m to _ _ (λ p. tt)))
ends_by_fault (Compare op rule w left right) n choice m =
    reading_ends m left (operand m right) _ _ (λ a. last_reading_ends m right _ _ (λ b. tt))
ends_by_fault (Move to from) n choice m = last_reading_ends m from _ _ (λ v. writing_ends m to _ _ (λ p. tt))
ends_by_fault (Convert op w to from by) n choice m = last_reading_ends m from _ _ (λ v. writing_ends m to _ _ (λ p. tt))
ends_by_fault (Lea to address) n choice m = writing_ends m to _ _ (λ p. tt)
ends_by_fault (Exchange place w r) n choice m = last_reading_ends m place _ _ (λ a. writing_ends m place _ _ (λ p. tt))
ends_by_fault (Shift op rule w to count) n choice m =
    reading_ends m to (operand m count) _ _ (λ a. last_reading_ends m count _ _ (λ v. writing_ends m to _ _ (λ p. tt)))
ends_by_fault (DoubleShift op other rule w to r count) n choice m =
    reading_ends m to (operand m count) _ _ (λ a. last_reading_ends m count _ _ (λ v. writing_ends m to _ _ (λ p. tt)))
ends_by_fault (TestBit change w r index) n choice m = last_reading_ends m index _ _ (λ v. tt)
ends_by_fault (FindBit op w r from) n choice m = last_reading_ends m from _ _ (λ b. tt)
ends_by_fault (CompareExchange place w r) n choice m = last_reading_ends m place _ _ (λ a. writing_ends m place _ _ (λ p. tt))
ends_by_fault (ExchangeAdd place w r) n choice m = last_reading_ends m place _ _ (λ a. writing_ends m place _ _ (λ p. tt))
ends_by_fault (MultiplyLong high rule w from) n choice m = last_reading_ends m from _ _ (λ b. tt)
ends_by_fault (Multiply w r left right) n choice m = reading_ends m left (operand m right) _ _ (λ a. last_reading_ends m right _ _ (λ b. tt))
ends_by_fault (Divide signed w by) n choice m =
    last_valued_ends m by _ _ (λ d e. divisor_ends signed w (value_of m by) d m _ (λ p. tt) e)
ends_by_fault (Jump c offset) n choice m = tt
ends_by_fault (Goto target) n choice m = targeting_ends m target n _ _ (λ a. tt)
ends_by_fault (Loop kind offset) n choice m = tt
ends_by_fault (JumpIfNoCount offset) n choice m = tt
ends_by_fault (Call target) n choice m = targeting_ends m target n _ _ (λ a. storing_ends m B32 (below (register ESP m) 4) _ _ (λ p. tt))
ends_by_fault (Return extra) n choice m = loading_ends m B32 (register ESP m) [] _ _ (λ a e. tt)
ends_by_fault (Push from) n choice m = last_reading_ends m from _ _ (λ v. storing_ends m B32 (below (register ESP m) 4) _ _ (λ p. tt))
ends_by_fault (Pop to) n choice m = loading_ends m B32 (register ESP m) [] _ _ (λ v e. popping_ends to v _ m)
ends_by_fault Leave n choice m = loading_ends m B32 (register EBP m) [] _ _ (λ v e. tt)
ends_by_fault (Set c to) n choice m = writing_ends m to _ _ (λ p. tt)
ends_by_fault (MoveIf c to from) n choice m =
    last_reading_ends m from _ _ (λ v. met_ends (is_met c m.flags) m _ (operand m to) _ (writing_ends m to v _ (λ p. tt)))
ends_by_fault (Flag change) n choice m = tt
ends_by_fault LoadStatus n choice m = tt
ends_by_fault StoreStatus n choice m = tt
ends_by_fault (Element kind w seg times) n choice m = string_ends kind w seg times (next_address m.eip n) choice m
ends_by_fault Nothing n choice m = tt
ends_by_fault (Stop kind) n choice m = refl

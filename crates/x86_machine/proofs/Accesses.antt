-- What reads and writes of memory end in.
use Rattle.std.proofs.Common.{◌≡◌, ℕ, zero, suc, Bool, List, [], ◌∷◌, ◌++◌, Option, Some, None, refl, sym, ap, subst, ◌∙◌, true, false, cond}
use Rattle.std.specs.Prelude.{◌&&◌, not, is_some, unwrap_or}
use Rattle.std.specs.List.{list_all}
use Rattle.bit_words.specs.declared.width.Width.{Width}
use Rattle.bit_words.specs.Width.{bytes_of}
use Rattle.memory_map.specs.declared.fault.FaultKind.{FaultKind}
use Rattle.memory_map.specs.declared.fault.FaultKind.TheVariants as kinds
use Rattle.memory_map.specs.Range.{Range, byte_at, may_write}
use Rattle.memory_map.specs.State.{MachineState, memory}
use Rattle.x86_syntax.specs.declared.instr.Operand.{Operand}
use Rattle.x86_syntax.specs.declared.instr.Operand.TheVariants.{Register, Number, Memory, Offset}
use Rattle.x86_semantics.specs.Flow.{targeting}
use Rattle.x86_semantics.specs.Memory.{may_write_all, next_byte, number_at, stored, with_low_byte, with_number, word_at}
use Rattle.x86_semantics.specs.Operands.{Ended, Next, Faulted, address_of, loading, on_stored, on_word, reading, storing, writing}
use Rattle.x86_machine.specs.Faults.{Access, addresses, is_mapped, is_writable, operand, value_of}

-- an operation ends as its first fault says
abbrev pub EndsBy : Option FaultKind → Ended → Type 0
EndsBy None (Next n) = Unit {0}
EndsBy None (Faulted kind m) = ⊥
EndsBy (Some kind) (Next n) = ⊥
EndsBy (Some kind) (Faulted other m) = other ≡ kind

-- the fault Read where one of these is not mapped, else another
abbrev pub unread : MachineState → List Access → Option FaultKind → Option FaultKind
unread m xs other = cond (not (list_all (is_mapped m) xs)) (Some kinds.Read) other

-- the fault Write where one of these may not be written, else none
abbrev pub unwritten : MachineState → List Access → Option FaultKind
unwritten m xs = cond (not (list_all (is_writable m) xs)) (Some kinds.Write) None

-- ---- bytes

both_some : (x y : Option ℕ) → (is_some x && is_some y) ≡ is_some (with_low_byte x y)
both_some None None = refl
both_some None (Some n) = refl
both_some (Some b) None = refl
both_some (Some b) (Some n) = refl

mapped_bytes : (ranges : List Range) (n a : ℕ) → list_all (λ b. is_some (byte_at ranges b)) (addresses n a) ≡ is_some (number_at ranges n a)
unfolding addresses number_at
mapped_bytes ranges zero a = refl
mapped_bytes ranges (suc n) a =
    ap (λ t. is_some (byte_at ranges a) && t) (mapped_bytes ranges n (next_byte a)) ∙ both_some (byte_at ranges a) (number_at ranges n (next_byte a))

writable_bytes : (ranges : List Range) (n a : ℕ) → list_all (may_write ranges) (addresses n a) ≡ may_write_all ranges n a
unfolding addresses may_write_all
writable_bytes ranges zero a = refl
writable_bytes ranges (suc n) a = ap (λ t. may_write ranges a && t) (writable_bytes ranges n (next_byte a))

-- ---- loads and stores

abbrev access : Width → ℕ → Access
access w a = record { at = a; width = w }

mapped_is : (m : MachineState) (w : Width) (a : ℕ) → is_mapped m (access w a) ≡ is_some (word_at w a m)
unfolding word_at
mapped_is m w a = mapped_bytes (memory m) (bytes_of w) a

on_word_ends : (m : MachineState) (o : Option ℕ) (b : Bool) (f : Option FaultKind) (k : ℕ → Ended)
    → ((v : ℕ) → o ≡ Some v → EndsBy (cond (not b) (Some kinds.Read) f) (k v))
    → EndsBy (cond (not (is_some o && b)) (Some kinds.Read) f) (on_word m o k)
on_word_ends m None b f k each = refl
on_word_ends m (Some v) b f k each = each v refl

pub loading_ends : (m : MachineState) (w : Width) (a : ℕ) (xs : List Access) (f : Option FaultKind) (k : ℕ → Ended)
    → ((v : ℕ) → word_at w a m ≡ Some v → EndsBy (unread m xs f) (k v))
    → EndsBy (unread m (access w a ∷ xs) f) (loading m w a k)
loading_ends m w a xs f k each =
    subst (λ (t : Bool). EndsBy (cond (not (t && list_all (is_mapped m) xs)) (Some kinds.Read) f) (loading m w a k)) (sym (mapped_is m w a))
    (on_word_ends m (word_at w a m) (list_all (is_mapped m) xs) f k each)

on_stored_ends : (b : Bool) (m n : MachineState) (k : MachineState → Ended) → ((p : MachineState) → EndsBy None (k p))
    → EndsBy (cond (not (b && true)) (Some kinds.Write) None) (on_stored m (cond b (Some n) None) k)
on_stored_ends true m n k each = each n
on_stored_ends false m n k each = refl

pub storing_ends : (m : MachineState) (w : Width) (a v : ℕ) (k : MachineState → Ended) → ((p : MachineState) → EndsBy None (k p))
    → EndsBy (unwritten m (access w a ∷ [])) (storing m w a v k)
unfolding stored
storing_ends m w a v k each =
    subst (λ (t : Bool). EndsBy (cond (not (t && true)) (Some kinds.Write) None) (storing m w a v k)) (sym (writable_bytes (memory m) (bytes_of w) a))
    (on_stored_ends (may_write_all (memory m) (bytes_of w) a) m (with_number (bytes_of w) a v m) k each)

-- ---- operands

-- one operand, with its value, before other reads
valued_ends : (m : MachineState) (o : Operand) (xs : List Access) (f : Option FaultKind) (k : ℕ → Ended)
    → ((v : ℕ) → value_of m o ≡ v → EndsBy (unread m xs f) (k v))
    → EndsBy (unread m (operand m o ++ xs) f) (reading m o k)
valued_ends m (Register w r) xs f k each = each _ refl
valued_ends m (Number w n) xs f k each = each _ refl
valued_ends m (Memory w a) xs f k each = loading_ends m w (address_of a m) xs f k (λ v e. each v (ap (λ o. unwrap_or o 0) e))
valued_ends m (Offset o) xs f k each = each _ refl

pub reading_ends : (m : MachineState) (o : Operand) (xs : List Access) (f : Option FaultKind) (k : ℕ → Ended)
    → ((v : ℕ) → EndsBy (unread m xs f) (k v))
    → EndsBy (unread m (operand m o ++ xs) f) (reading m o k)
reading_ends m o xs f k each = valued_ends m o xs f k (λ v e. each v)

-- the last of them
pub last_valued_ends : (m : MachineState) (o : Operand) (f : Option FaultKind) (k : ℕ → Ended) → ((v : ℕ) → value_of m o ≡ v → EndsBy f (k v))
    → EndsBy (unread m (operand m o) f) (reading m o k)
last_valued_ends m (Register w r) f k each = each _ refl
last_valued_ends m (Number w n) f k each = each _ refl
last_valued_ends m (Memory w a) f k each = loading_ends m w (address_of a m) [] f k (λ v e. each v (ap (λ o. unwrap_or o 0) e))
last_valued_ends m (Offset o) f k each = each _ refl

pub last_reading_ends : (m : MachineState) (o : Operand) (f : Option FaultKind) (k : ℕ → Ended) → ((v : ℕ) → EndsBy f (k v))
    → EndsBy (unread m (operand m o) f) (reading m o k)
last_reading_ends m o f k each = last_valued_ends m o f k (λ v e. each v)

pub targeting_ends : (m : MachineState) (o : Operand) (n : ℕ) (f : Option FaultKind) (k : ℕ → Ended) → ((v : ℕ) → EndsBy f (k v))
    → EndsBy (unread m (operand m o) f) (targeting m o n k)
targeting_ends m (Register w r) n f k each = each _
targeting_ends m (Number w x) n f k each = each _
targeting_ends m (Memory w a) n f k each = last_reading_ends m (Memory w a) f k each
targeting_ends m (Offset o) n f k each = each _

pub writing_ends : (m : MachineState) (o : Operand) (v : ℕ) (k : MachineState → Ended) → ((p : MachineState) → EndsBy None (k p))
    → EndsBy (unwritten m (operand m o)) (writing m o v k)
writing_ends m (Register w r) v k each = each _
writing_ends m (Number w n) v k each = each _
writing_ends m (Memory w a) v k each = storing_ends m w (address_of a m) v k each
writing_ends m (Offset o) v k each = each _

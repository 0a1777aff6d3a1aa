-- String operations: the statements do what the instruction does.
use Rattle.std.proofs.Common.{◌≡◌, ℕ, ◌+◌, ◌-◌, ◌^◌, Bool, true, false, cond, not, ◌||◌, List, [], ◌∷◌, refl, ◌∙◌, ap, ◌==◌}
use Rattle.bit_words.specs.declared.width.Width.{Width}
use Rattle.bit_words.specs.declared.op.Op.TheVariants.{Sub}
use Rattle.bit_words.specs.Width.{bytes_of}
use Rattle.bit_words.specs.Operators.{apply_op}
use Rattle.memory_map.specs.declared.choice.Choice.{Choice}
use Rattle.memory_map.specs.State.{MachineState}
use Rattle.memory_map.specs.declared.registers.TheConstants.{EAX, ECX, ESI, EDI}
use Rattle.x86_syntax.specs.declared.instr.Seg.{Seg}
use Rattle.x86_syntax.specs.declared.instr.Repeat.{Repeat}
use Rattle.x86_syntax.specs.declared.instr.Repeat.TheVariants.{Once, Rep, Repe, Repne}
use Rattle.x86_semantics.specs.declared.operation.StringKind.{StringKind}
use Rattle.x86_semantics.specs.declared.operation.StringKind.TheVariants as kinds
use Rattle.x86_semantics.specs.Registers.{register, with_register, part, with_part}
use Rattle.x86_semantics.specs.Operands.{Ended, Next, at_address}
use Rattle.x86_semantics.specs.Moves.{below}
use Rattle.x86_semantics.specs.Strings.{element, source_address, moved, compared, step_of, counted, repeated, string}
use Rattle.statement_lang.specs.declared.stmt.Source.TheVariants as sources
use Rattle.statement_lang.specs.declared.stmt.Stmt.{Stmt}
use Rattle.statement_lang.specs.declared.stmt.Stmt.TheVariants.{Store, Goto}
use Rattle.statement_lang.specs.Run.{run, run_from, zeros}
use Rattle.x86_lifter.specs.Lists.{element_list, advancing, element_size, with_destination, ending_repetition, stepping, repeating, string_list}
use Rattle.x86_lifter.proofs.Places.{temps}
use Rattle.x86_lifter.proofs.Values.{fetched-register, kept-register, loading-same, storing-same, inside}

-- what stands behind an element and reads no temporary but the step
abbrev RunsOn : List Stmt → Choice → ℕ → (MachineState → Ended) → Type 0
RunsOn rest c step k = (n : MachineState) (t0 t2 t3 t4 : ℕ) → run_from rest 0 c n (temps t0 0 t2 t3 t4 step 0) ≡ k n

element-done : (kind : StringKind) (w : Width) (seg : Seg) (step : ℕ) (rest : List Stmt) (c : Choice) (m : MachineState) (k : MachineState → Ended) → RunsOn rest c step k
    → run_from (element_list kind w seg rest) 0 c m (temps 0 0 0 0 0 step 0) ≡ element kind w seg step c m k
element-done kinds.Move w seg step rest c m k on =
    let a = source_address seg m in
    loading-same m w a _ _ (λ v. storing-same m w (register EDI m) v _ _ (λ n. on (moved EDI step (moved ESI step n)) a v 0 0))
element-done kinds.Compare w seg step rest c m k on =
    let a = source_address seg m in
    loading-same m w a _ _ (λ v. loading-same m w (register EDI m) _ _ (λ u.
    on (moved EDI step (moved ESI step (compared w v u c m))) a v u (apply_op Sub w v u)))
element-done kinds.Store w seg step rest c m k on =
    fetched-register w EAX 2 (Store (sources.Register EDI) w (sources.Temp 2) ∷ advancing EDI ∷ rest) c m (temps 0 0 0 0 0 step 0)
    ∙ storing-same m w (register EDI m) (part w EAX m) _ _ (λ n. on (moved EDI step n) 0 (part w EAX m) 0 0)
element-done kinds.Load w seg step rest c m k on =
    let a = source_address seg m in
    loading-same m w a _ _ (λ v.
    kept-register w EAX 2 (advancing ESI ∷ rest) c m (temps a 0 v 0 0 step 0) ∙ on (moved ESI step (with_part w EAX v m)) a v 0 0)
element-done kinds.Scan w seg step rest c m k on =
    let v = part w EAX m in
    fetched-register w EAX 2 (with_destination w (advancing EDI ∷ rest)) c m (temps 0 0 0 0 0 step 0)
    ∙ loading-same m w (register EDI m) _ _ (λ u. on (moved EDI step (compared w v u c m)) 0 v u (apply_op Sub w v u))

-- the step first
stepped : (kind : StringKind) (w : Width) (seg : Seg) (rest : List Stmt) (c : Choice) (m : MachineState) (k : MachineState → Ended) → RunsOn rest c (step_of w m.flags) k
    → run_from (stepping w (element_list kind w seg rest)) 0 c m zeros ≡ element kind w seg (step_of w m.flags) c m k
stepped kind w seg rest c m k on =
    inside (λ step. run_from (element_list kind w seg rest) 0 c m (temps 0 0 0 0 0 step 0)) m.flags.direction (2 ^ 32 - bytes_of w) (bytes_of w)
    ∙ element-done kind w seg (step_of w m.flags) rest c m k on

over : (zero ends : Bool) (next here : ℕ) (p : MachineState)
    → cond zero (cond ends (Next (at_address next p)) (Next (at_address next p))) (cond ends (Next (at_address next p)) (Next (at_address here p)))
    ≡ Next (at_address (cond (zero || ends) next here) p)
over true true next here p = refl
over true false next here p = refl
over false true next here p = refl
over false false next here p = refl

ended-once : (next : ℕ) (c : Choice) (step : ℕ) → RunsOn (Goto (sources.Number next) ∷ []) c step (λ n. Next (at_address next n))
ended-once next c step n t0 t2 t3 t4 = refl

ended-repetition : (again : Repeat) (here next : ℕ) (c : Choice) (step : ℕ) → RunsOn (ending_repetition again here next) c step (counted again next here)
ended-repetition Once here next c step n t0 t2 t3 t4 =
    over (below (register ECX n) 1 == 0) false next here (with_register ECX (below (register ECX n) 1) n)
ended-repetition Rep here next c step n t0 t2 t3 t4 =
    over (below (register ECX n) 1 == 0) false next here (with_register ECX (below (register ECX n) 1) n)
ended-repetition Repe here next c step n t0 t2 t3 t4 =
    (let p = with_register ECX (below (register ECX n) 1) n in over (below (register ECX n) 1 == 0) (not p.flags.zero) next here p)
ended-repetition Repne here next c step n t0 t2 t3 t4 =
    (let p = with_register ECX (below (register ECX n) 1) n in over (below (register ECX n) 1 == 0) p.flags.zero next here p)

-- where ECX is 0 all behind it is passed over
passed : (kind : StringKind) (again : Repeat) (w : Width) (seg : Seg) (here next : ℕ) (c : Choice) (m : MachineState)
    → run_from (stepping w (element_list kind w seg (ending_repetition again here next))) (element_size kind + 10) c m zeros ≡ Next m
passed kinds.Move again w seg here next c m = refl
passed kinds.Compare again w seg here next c m = refl
passed kinds.Store again w seg here next c m = refl
passed kinds.Load again w seg here next c m = refl
passed kinds.Scan again w seg here next c m = refl

repetition : (again : Repeat) (kind : StringKind) (w : Width) (seg : Seg) (next : ℕ) (c : Choice) (m : MachineState)
    → run_from (repeating again kind w seg m.eip next) 0 c m zeros ≡ repeated again kind w seg next c m
repetition again kind w seg next c m =
    ap (λ x. cond (register ECX m == 0) x (run_from (stepping w (element_list kind w seg (ending_repetition again m.eip next))) 0 c m zeros))
    (passed kind again w seg m.eip next c (at_address next m))
    ∙ ap (cond (register ECX m == 0) (Next (at_address next m)))
    (stepped kind w seg (ending_repetition again m.eip next) c m (counted again next m.eip) (ended-repetition again m.eip next c (step_of w m.flags)))

pub string-done : (kind : StringKind) (w : Width) (seg : Seg) (again : Repeat) (next : ℕ) (c : Choice) (m : MachineState)
    → run (string_list kind w seg again m.eip next) c m ≡ string kind w seg again next c m
unfolding run
string-done kind w seg Once next c m = stepped kind w seg (Goto (sources.Number next) ∷ []) c m (λ n. Next (at_address next n)) (ended-once next c (step_of w m.flags))
string-done kind w seg Rep next c m = repetition Rep kind w seg next c m
string-done kind w seg Repe next c m = repetition Repe kind w seg next c m
string-done kind w seg Repne next c m = repetition Repne kind w seg next c m

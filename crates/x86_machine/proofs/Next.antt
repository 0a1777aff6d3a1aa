-- When the machine has a next state.
use Rattle.std.proofs.Common.{◌≡◌, ℕ, Bool, List, [], Option, Some, None, refl, sym, ap, subst, ◌∙◌, true, false, inl, inr}
use Rattle.std.specs.Prelude.{◌≢◌, MatchBool}
use Rattle.std.proofs.lemmas.Bool.{ne_eqb}
use Rattle.memory_map.specs.declared.choice.Choice.{Choice}
use Rattle.memory_map.specs.declared.fault.BadKind.{BadKind}
use Rattle.memory_map.specs.declared.fault.FaultKind.{FaultKind}
use Rattle.memory_map.specs.Image.{Image, EXIT_PLACE, name_at}
use Rattle.memory_map.specs.State.{MachineState}
use Rattle.stub_file.specs.declared.stub.Reply.{Reply}
use Rattle.stub_file.specs.declared.stub.Reply.TheVariants.{Anything, Block, Enter, Never, Number}
use Rattle.stub_file.specs.declared.stub.Stub.{Stub}
use Rattle.stub_file.specs.Stubs.{StatedStubs}
use Rattle.x86_syntax.specs.declared.instr.Instr.{Instr}
use Rattle.x86_semantics.specs.Does.{done, does, result_of}
use Rattle.x86_semantics.specs.Operands.{Ended, Next, Faulted}
use Rattle.x86_semantics.specs.Operations.{operation_of}
use Rattle.import_semantics.specs.StubDoes.{Returned, after_call, bad_of, block_of, end_by, fault_of, is_allowed, may_fail, stub_does}
use Rattle.import_semantics.proofs.Returning.{calls_fail, calls_return}
use Rattle.x86_machine.specs.Laws.{HasRoom, ImportsExit, ImportsFault, ImportsStep, InstructionsFault, InstructionsStep, IsAt, IsAtImport}
use Rattle.x86_machine.specs.StepBy.{AtInstr, AtName, StepEnd, StepBy, exited, faulted, fetched, import_outcome, outcome_of, outcome_of_stub, stepped, unless_never}
use Rattle.x86_machine.proofs.Accesses.{EndsBy}
use Rattle.x86_machine.proofs.Ending.{ends_by_fault}

module _ (image : Image) (stubs : StatedStubs) (choice : Choice) (m : MachineState) (outcome : StepEnd) where
  -- a step is one by the name at EIP
  abbrev ByExit : Bool → Type 0
  ByExit b = MatchBool b (outcome ≡ exited) (AtName stubs (name_at image m.eip) choice m outcome)

  pub named_step : m.eip ≢ EXIT_PLACE → AtName stubs (name_at image m.eip) choice m outcome → StepBy image stubs choice m outcome
  unfolding StepBy
  named_step runs h = subst ByExit (sym (ne_eqb m.eip EXIT_PLACE runs)) h

  step_named : m.eip ≢ EXIT_PLACE → StepBy image stubs choice m outcome → AtName stubs (name_at image m.eip) choice m outcome
  unfolding StepBy
  step_named runs h = subst ByExit (ne_eqb m.eip EXIT_PLACE runs) h

  abbrev ByName : Option (List ℕ) → Type 0
  ByName o = AtName stubs o choice m outcome

  abbrev ByInstr : Option (Instr × ℕ) → Type 0
  ByInstr o = AtInstr o choice m (fetched m) outcome

  -- at an instruction, by what it does
  done_step : (i : Instr) (n : ℕ) → IsAt image m i n → outcome ≡ outcome_of (result_of (done (operation_of i) n choice m)) → StepBy image stubs choice m outcome
  unfolding does
  done_step i n at e = named_step at.runs (subst ByName (sym at.unnamed) (subst ByInstr (sym at.found) e))

  step_done : (i : Instr) (n : ℕ) → IsAt image m i n → StepBy image stubs choice m outcome → outcome ≡ outcome_of (result_of (done (operation_of i) n choice m))
  unfolding does
  step_done i n at h = subst ByInstr at.found (subst ByName at.unnamed (step_named at.runs h))

-- ---- instructions

clear_steps : (f : Option FaultKind) (e : Ended) → EndsBy f e → f ≡ None → (next : MachineState) × (stepped next ≡ outcome_of (result_of e))
clear_steps None (Next n) h clear = (n, refl)
clear_steps None (Faulted kind m) h clear = absurd h
clear_steps (Some kind) e h clear = cc

steps_clear : (f : Option FaultKind) (e : Ended) (next : MachineState) → EndsBy f e → stepped next ≡ outcome_of (result_of e) → f ≡ None
steps_clear None e next h is = refl
steps_clear (Some kind) (Next n) next h is = absurd h
steps_clear (Some kind) (Faulted other m) next h is = cc

held_faults : (f : Option FaultKind) (e : Ended) (kind : FaultKind) → EndsBy f e → f ≡ Some kind → faulted kind ≡ outcome_of (result_of e)
held_faults None e kind h holds = cc
held_faults (Some k) (Next n) kind h holds = absurd h
held_faults (Some k) (Faulted other m) kind h holds = cc

faults_held : (f : Option FaultKind) (e : Ended) (kind : FaultKind) → EndsBy f e → faulted kind ≡ outcome_of (result_of e) → f ≡ Some kind
faults_held None (Next n) kind h is = cc
faults_held None (Faulted other m) kind h is = absurd h
faults_held (Some k) (Next n) kind h is = absurd h
faults_held (Some k) (Faulted other m) kind h is = cc

pub instructions_step : InstructionsStep
instructions_step image stubs m i n at choice =
    let ends = ends_by_fault (operation_of i) n choice m in (
      λ clear. let s = clear_steps _ _ ends clear in (s.0, done_step image stubs choice m (stepped s.0) i n at s.1),
      λ s. steps_clear _ _ s.0 ends (step_done image stubs choice m (stepped s.0) i n at s.1),
    )

pub instructions_fault : InstructionsFault
instructions_fault image stubs m i n at choice kind =
    let ends = ends_by_fault (operation_of i) n choice m in (
      λ holds. done_step image stubs choice m (faulted kind) i n at (held_faults _ _ kind ends holds),
      λ s. faults_held _ _ kind ends (step_done image stubs choice m (faulted kind) i n at s),
    )

-- ---- imports

pub not_never : (r : Reply) (outcome : StepEnd) → r ≢ Never → unless_never r outcome ≡ outcome
not_never Anything outcome on = refl
not_never (Number n) outcome on = refl
not_never (Block size zeroed may) outcome on = refl
not_never Never outcome on = absurd (on refl)
not_never (Enter i) outcome on = refl

-- what comes of a stub's step
abbrev outcome_by : Stub → Choice → MachineState → StepEnd
outcome_by stub choice m = unless_never stub.reply (outcome_of_stub (stub_does stub choice m))

ends_step : (image : Image) (stubs : StatedStubs) (m : MachineState) (stub : Stub) → IsAtImport image stubs m stub → (choice : Choice) (outcome : StepEnd)
    → outcome ≡ outcome_by stub choice m
    → StepBy image stubs choice m outcome
ends_step image stubs m stub at choice outcome e =
    named_step image stubs choice m outcome at.runs (subst (ByName image stubs choice m outcome) (sym at.named) (e ∙ sym (ap (λ s. import_outcome s choice m) at.has_stub)))

step_ends : (image : Image) (stubs : StatedStubs) (m : MachineState) (stub : Stub) → IsAtImport image stubs m stub → (choice : Choice) (outcome : StepEnd)
    → StepBy image stubs choice m outcome
    → outcome ≡ outcome_by stub choice m
step_ends image stubs m stub at choice outcome h =
    subst (ByName image stubs choice m outcome) at.named (step_named image stubs choice m outcome at.runs h) ∙ ap (λ s. import_outcome s choice m) at.has_stub

-- a choice of a base and a failure, with no byte
abbrev chosen : ℕ → Bool → Choice
chosen base fails = record { flags = 0; eax = 0; ecx = 0; edx = 0; base = base; fails = fails; fill = [] }

abbrev LeadsOn : Stub → MachineState → Type 0
LeadsOn stub m = (choice : Choice) × ((next : MachineState) × (stub_does stub choice m ≡ Returned next))

without_block : (stub : Stub) (m : MachineState) (r : Reply) → stub.reply ≡ r → block_of r (chosen 0 false) m ≡ None → fault_of stub m ≡ None → LeadsOn stub m
without_block stub m r is none clear =
    let lies : is_allowed m (block_of stub.reply (chosen 0 false) m) ≡ true =
    ap (λ s. is_allowed m (block_of s (chosen 0 false) m)) is ∙ ap (is_allowed m) none in
    (chosen 0 false, calls_return stub (chosen 0 false) m (record { fails = refl; fill = refl }) lies clear)

leads_on : (stub : Stub) (m : MachineState) (r : Reply) → stub.reply ≡ r → HasRoom r m → fault_of stub m ≡ None → LeadsOn stub m
leads_on stub m Anything is room clear = without_block stub m Anything is refl clear
leads_on stub m (Number n) is room clear = without_block stub m (Number n) is refl clear
leads_on stub m Never is room clear = without_block stub m Never is refl clear
leads_on stub m (Enter i) is room clear = without_block stub m (Enter i) is refl clear
leads_on stub m (Block size zeroed may) is (inl fails) clear = (chosen 0 true, calls_fail stub (chosen 0 true) m (ap may_fail is ∙ fails) refl refl clear)
leads_on stub m (Block size zeroed may) is (inr free) clear =
    let lies : is_allowed m (block_of stub.reply (chosen free.0 false) m) ≡ true = ap (λ s. is_allowed m (block_of s (chosen free.0 false) m)) is ∙ free.1 in
    (chosen free.0 false, calls_return stub (chosen free.0 false) m (record { fails = refl; fill = refl }) lies clear)

returns_clear : (f : Option FaultKind) (bad : Option BadKind) (after next : MachineState) → stepped next ≡ outcome_of_stub (end_by f bad after) → f ≡ None
returns_clear None bad after next is = refl
returns_clear (Some kind) bad after next is = cc

held_ends : (f : Option FaultKind) (bad : Option BadKind) (after : MachineState) (kind : FaultKind) → f ≡ Some kind → faulted kind ≡ outcome_of_stub (end_by f bad after)
held_ends f bad after kind holds = sym (ap (λ g. outcome_of_stub (end_by g bad after)) holds)

ends_held : (f : Option FaultKind) (bad : Option BadKind) (after : MachineState) (kind : FaultKind) → faulted kind ≡ outcome_of_stub (end_by f bad after) → f ≡ Some kind
ends_held (Some k) bad after kind is = cc
ends_held None (Some b) after kind is = cc
ends_held None None after kind is = cc

pub imports_step : ImportsStep
unfolding stub_does
imports_step image stubs m stub at on room =
    let goes : (choice : Choice) → outcome_by stub choice m ≡ outcome_of_stub (stub_does stub choice m) = λ choice. not_never stub.reply _ on in (
      λ clear.
          let l = leads_on stub m stub.reply refl room clear in
          (l.1.0, (l.0, ends_step image stubs m stub at l.0 (stepped l.1.0) (sym (ap outcome_of_stub l.1.1) ∙ sym (goes l.0)))),
      λ s. returns_clear (fault_of stub m) (bad_of stub s.1.0 m) (after_call stub s.1.0 m) s.0 (step_ends image stubs m stub at s.1.0 (stepped s.0) s.1.1 ∙ goes s.1.0),
    )

pub imports_fault : ImportsFault
unfolding stub_does
imports_fault image stubs m stub at on choice kind =
    let goes : outcome_by stub choice m ≡ outcome_of_stub (stub_does stub choice m) = not_never stub.reply _ on in (
      λ holds. ends_step image stubs m stub at choice (faulted kind) (held_ends (fault_of stub m) (bad_of stub choice m) (after_call stub choice m) kind holds ∙ sym goes),
      λ s. ends_held (fault_of stub m) (bad_of stub choice m) (after_call stub choice m) kind (step_ends image stubs m stub at choice (faulted kind) s ∙ goes),
    )

pub imports_exit : ImportsExit
imports_exit image stubs m stub at never choice outcome =
    let over : outcome_by stub choice m ≡ exited = ap (λ r. unless_never r (outcome_of_stub (stub_does stub choice m))) never in
    (λ s. step_ends image stubs m stub at choice outcome s ∙ over, λ e. ends_step image stubs m stub at choice outcome (e ∙ sym over))

-- A step has one outcome alone, a run one record, and a record one verdict.
use Rattle.std.proofs.Common.{◌≡◌, ℕ, zero, suc, ◌+◌, ◌==◌, Bool, true, false, List, [], ◌∷◌, Option, Some, None, sym, ◌∙◌, ap, subst, inl, inr}
use Rattle.std.specs.Prelude.{MatchBool}
use Rattle.memory_map.specs.declared.choice.Choice.{Choice}
use Rattle.memory_map.specs.Image.{Image, EXIT_PLACE, name_at}
use Rattle.memory_map.specs.State.{MachineState}
use Rattle.stub_file.specs.Stubs.{StatedStubs}
use Rattle.flow_log.specs.declared.edge.Edge.{Edge}
use Rattle.x86_syntax.specs.declared.instr.Instr.{Instr}
use Rattle.x86_syntax.specs.Decodes.{decoded}
use Rattle.x86_machine.specs.StepBy.{AtInstr, AtName, StepBy, StepEnd, bad_choice, exited, faulted, fetched, no_stub, not_listed, stepped}
use Rattle.run_replayer.specs.declared.record.EndWord.{EndWord}
use Rattle.run_replayer.specs.declared.record.RunStep.{RunStep}
use Rattle.run_replayer.specs.declared.verdict.Verdict.{Verdict}
use Rattle.run_replayer.specs.Record.{AreMade, Stops, later_choices, next_choice, recorded_step, outcome_word}
use Rattle.run_replayer.specs.Verdict.{ByOutcome, Decides, IsTried, Whether}

-- ---- steps

instr_once : (found : Option (Instr × ℕ)) (choice : Choice) (m : MachineState) (bytes : List ℕ) (a b : StepEnd) → AtInstr found choice m bytes a → AtInstr found choice m bytes b → a ≡ b
instr_once (Some p) choice m bytes a b h k = h ∙ sym k
instr_once None choice m bytes a b (inl h) (inl k) = h.1 ∙ sym k.1
instr_once None choice m bytes a b (inl h) (inr k) = absurd (k.0 h.0)
instr_once None choice m bytes a b (inr h) (inl k) = absurd (h.0 k.0)
instr_once None choice m bytes a b (inr h) (inr k) = h.1 ∙ sym k.1

name_once : (stubs : StatedStubs) (name : Option (List ℕ)) (choice : Choice) (m : MachineState) (a b : StepEnd) → AtName stubs name choice m a → AtName stubs name choice m b → a ≡ b
name_once stubs (Some name) choice m a b h k = h ∙ sym k
name_once stubs None choice m a b h k = instr_once (decoded (fetched m)) choice m (fetched m) a b h k

exit_once : (at_exit : Bool) (stubs : StatedStubs) (name : Option (List ℕ)) (choice : Choice) (m : MachineState) (a b : StepEnd)
    → MatchBool at_exit (a ≡ exited) (AtName stubs name choice m a) → MatchBool at_exit (b ≡ exited) (AtName stubs name choice m b) → a ≡ b
exit_once true stubs name choice m a b h k = h ∙ sym k
exit_once false stubs name choice m a b h k = name_once stubs name choice m a b h k

module _ (image : Image) (stubs : StatedStubs) where
  pub step_once : (choice : Choice) (m : MachineState) (a b : StepEnd) → StepBy image stubs choice m a → StepBy image stubs choice m b → a ≡ b
  unfolding StepBy
  step_once choice m a b h k = exit_once (m.eip == EXIT_PLACE) stubs (name_at image m.eip) choice m a b h k

  -- ---- records

  stepped_once : (choice : Choice) (m next other : MachineState) → StepBy image stubs choice m (stepped next) → StepBy image stubs choice m (stepped other) → next ≡ other
  stepped_once choice m next other h k = let e : stepped next ≡ stepped other = step_once choice m (stepped next) (stepped other) h k in cc

  not_both : (choice : Choice) (m next : MachineState) (end : EndWord) → StepBy image stubs choice m (stepped next) → Stops image stubs choice m end → ⊥
  not_both choice m next end h s =
      let e : outcome_word s.outcome ≡ outcome_word (stepped next) = ap outcome_word (step_once choice m s.outcome (stepped next) s.comes h) in
      let no : ◌≡◌ {A = Option EndWord} (Some end) None = sym s.word ∙ e in cc

  stops_once : (choice : Choice) (m : MachineState) (a b : EndWord) → Stops image stubs choice m a → Stops image stubs choice m b → a ≡ b
  stops_once choice m a b s t =
      let e : Some a ≡ Some b = sym s.word ∙ ap outcome_word (step_once choice m s.outcome t.outcome s.comes t.comes) ∙ t.word in cc

  pub made_once : (count : ℕ) (choices : List Choice) (m : MachineState) (steps others : List RunStep) (a b : EndWord)
      → AreMade image stubs count choices m steps a → AreMade image stubs count choices m others b → (steps ≡ others) × (a ≡ b)
  unfolding AreMade
  made_once zero choices m steps others a b (none, all) (none', all') = (none ∙ sym none', all ∙ sym all')
  made_once (suc count) choices m steps others a b (inl (none, s)) (inl (none', t)) = (none ∙ sym none', stops_once (next_choice choices) m a b s t)
  made_once (suc count) choices m steps others a b (inl (none, s)) (inr g) = absurd (not_both (next_choice choices) m g.next a g.comes s)
  made_once (suc count) choices m steps others a b (inr g) (inl (none, s)) = absurd (not_both (next_choice choices) m g.next b g.comes s)
  made_once (suc count) choices m steps others a b (inr g) (inr h) =
      let same : g.next ≡ h.next = stepped_once (next_choice choices) m g.next h.next g.comes h.comes in
      let P : MachineState → Type 0 = λ next. AreMade image stubs count (later_choices choices) next g.rest a in
      let rest : (g.rest ≡ h.rest) × (a ≡ b) = made_once count (later_choices choices) h.next g.rest h.rest a b (subst P same g.goes) h.goes in
      (g.first ∙ ap (λ next. recorded_step m (next_choice choices) next ∷ g.rest) same ∙ ap (λ t. recorded_step m (next_choice choices) h.next ∷ t) rest.0 ∙ sym h.first, rest.1)

  -- ---- verdicts

  whether_once : {P A B C D : Type 0} {V : Type 0} (v w : V) → (A → C → v ≡ w) → (B → D → v ≡ w) → Whether P A B → Whether P C D → v ≡ w
  whether_once v w first second (inl (p, a)) (inl (q, c)) = first a c
  whether_once v w first second (inl (p, a)) (inr (q, d)) = absurd (q p)
  whether_once v w first second (inr (p, b)) (inl (q, c)) = absurd (p q)
  whether_once v w first second (inr (p, b)) (inr (q, d)) = second b d

  outcome_once : (edges : List Edge) (n : ℕ) (m : MachineState) (s : RunStep) (v w : Verdict) (L K : MachineState → Type 0) → ((next : MachineState) → L next → K next → v ≡ w) → (outcome : StepEnd)
      → ByOutcome image edges n m s v L outcome → ByOutcome image edges n m s w K outcome → v ≡ w
  outcome_once edges n m s v w L K later (stepped next) h k = whether_once v w (λ a c. whether_once v w (later next) (λ x y. x ∙ sym y) a c) (λ x y. x ∙ sym y) h k
  outcome_once edges n m s v w L K later (faulted kind) h k = h ∙ sym k
  outcome_once edges n m s v w L K later not_listed h k = h ∙ sym k
  outcome_once edges n m s v w L K later no_stub h k = h ∙ sym k
  outcome_once edges n m s v w L K later exited h k = h ∙ sym k
  outcome_once edges n m s v w L K later (bad_choice kind) h k = h ∙ sym k

  tried_once : (edges : List Edge) (n : ℕ) (m : MachineState) (s : RunStep) (v w : Verdict) (L K : MachineState → Type 0) → ((next : MachineState) → L next → K next → v ≡ w)
      → IsTried image stubs edges n m s v L → IsTried image stubs edges n m s w K → v ≡ w
  tried_once edges n m s v w L K later h k =
      let P : StepEnd → Type 0 = λ outcome. ByOutcome image edges n m s v L outcome in
      outcome_once edges n m s v w L K later k.outcome (subst P (step_once s.choice m h.outcome k.outcome h.comes k.comes) h.decides) k.decides

  pub decided_once : (edges : List Edge) (opened : List ℕ) (n : ℕ) (m : MachineState) (steps : List RunStep) (v w : Verdict)
      → Decides image stubs edges opened n m steps v → Decides image stubs edges opened n m steps w → v ≡ w
  unfolding Decides
  decided_once edges opened n m [] v w h k = whether_once v w (λ x y. x ∙ sym y) (λ x y. x ∙ sym y) h k
  decided_once edges opened n m (s ∷ steps) v w h k =
      whether_once v w (λ x y. x ∙ sym y)
      (λ a c. whether_once v w (λ t u. tried_once edges n m s v w _ _ (λ next x y. decided_once edges opened (n + 1) next steps v w x y) t u) (λ x y. x ∙ sym y) a c) h k

-- The verdict of steps: by an index as by the automaton itself, and by each rule in its turn.
use Rattle.std.proofs.Common.{◌≡◌, ◌≢◌, ℕ, Bool, true, false, suc, ◌+◌, ◌<◌, List, [], ◌∷◌, length, drop, get_or, refl, sym, ◌∙◌, ap, subst, inl, inr, Some, arith, drop-cons}
use Rattle.std.proofs.lemmas.List.{drop_all}
use Rattle.std.specs.Prelude.{Contains}
use Rattle.memory_map.specs.Image.{Image}
use Rattle.memory_map.specs.State.{MachineState}
use Rattle.stub_file.specs.Stubs.{StatedStubs}
use Rattle.flow_log.specs.declared.edge.Edge.{Edge}
use Rattle.automaton_text.specs.declared.automaton.Automaton.{Automaton}
use Rattle.flow_log.specs.declared.edge.Label.{Label}
use Rattle.x86_machine.specs.Machine.{edge_of, label_at}
use Rattle.x86_machine.specs.StepBy.{StepEnd, StepBy, stepped, faulted, not_listed, no_stub, exited, bad_choice}
use Rattle.run_replayer.specs.declared.index.Index.{Index}
use Rattle.run_replayer.specs.declared.record.RunStep.{RunStep}
use Rattle.run_replayer.specs.declared.verdict.RunKind.{RunKind}
use Rattle.run_replayer.specs.declared.verdict.RunKind.TheVariants as kinds
use Rattle.run_replayer.specs.declared.verdict.Verdict.{Verdict}
use Rattle.run_replayer.specs.declared.verdict.Verdict.TheVariants.{Inside, ReachedOpen, NotARun, NotAnEdge}
use Rattle.run_replayer.specs.Replaying.{Ends, IsIndex, MakesNone, Passes, kind_of}
use Rattle.run_replayer.specs.Verdict.{ByOutcome, Decides, Whether, open_of}

module _ (image : Image) (stubs : StatedStubs) (i : Index) (n : ℕ) (m : MachineState) (s : RunStep) where
  pub passes : (next : MachineState) → (Contains i.opened m.eip → ⊥) → m.eip ≡ s.from → StepBy image stubs s.choice m (stepped next) → next.eip ≡ s.to
      → Contains i.edges (edge_of image m next) → Passes image stubs i n m s next
  unfolding Decides
  passes next closed from comes to edge = record {
    goes = λ steps verdict later. inr (closed, inl (from, record { outcome = stepped next; comes = comes; decides = inl (to, inl (edge, later)) }));
  }

  pub ends_open : (at : ℕ) → at ≡ m.eip → Contains i.opened at → Ends image stubs i n m s (ReachedOpen n at)
  unfolding Decides
  ends_open at is here = record { decides = λ steps. inl (subst (λ (a : ℕ). Contains i.opened a) is here, ap (ReachedOpen n) is) }

  pub ends_elsewhere : (Contains i.opened m.eip → ⊥) → m.eip ≢ s.from → Ends image stubs i n m s (NotARun n kinds.From)
  unfolding Decides
  ends_elsewhere closed elsewhere = record { decides = λ steps. inr (closed, inr (elsewhere, refl)) }

  by_kind : (edges : List Edge) (kind : RunKind) (Later : MachineState → Type 0) (outcome : StepEnd) → kind_of outcome ≡ Some kind
      → ByOutcome image edges n m s (NotARun n kind) Later outcome
  by_kind edges kind Later (stepped next) is = cc
  by_kind edges kind Later (faulted fault) is = (let e : kind ≡ kinds.Faulted = cc in ap (NotARun n) e)
  by_kind edges kind Later not_listed is = (let e : kind ≡ kinds.NotListed = cc in ap (NotARun n) e)
  by_kind edges kind Later no_stub is = (let e : kind ≡ kinds.NoStub = cc in ap (NotARun n) e)
  by_kind edges kind Later exited is = (let e : kind ≡ kinds.Exited = cc in ap (NotARun n) e)
  by_kind edges kind Later (bad_choice bad) is = (let e : kind ≡ kinds.BadChoice = cc in ap (NotARun n) e)

  pub ends_without : (kind : RunKind) → (Contains i.opened m.eip → ⊥) → m.eip ≡ s.from → MakesNone image stubs s.choice m kind → Ends image stubs i n m s (NotARun n kind)
  unfolding Decides
  ends_without kind closed from none = record {
    decides = λ steps. inr (closed, inl (from, record { outcome = none.outcome; comes = none.comes; decides = by_kind i.edges kind _ none.outcome none.is }));
  }

  pub ends_to : (next : MachineState) → (Contains i.opened m.eip → ⊥) → m.eip ≡ s.from → StepBy image stubs s.choice m (stepped next) → next.eip ≢ s.to
      → Ends image stubs i n m s (NotARun n kinds.To)
  unfolding Decides
  ends_to next closed from comes elsewhere = record {
    decides = λ steps. inr (closed, inl (from, record { outcome = stepped next; comes = comes; decides = inr (elsewhere, refl) }));
  }

  pub ends_edge : (next : MachineState) → (Contains i.opened m.eip → ⊥) → m.eip ≡ s.from → StepBy image stubs s.choice m (stepped next) → next.eip ≡ s.to
      → (Contains i.edges (edge_of image m next) → ⊥) → Ends image stubs i n m s (NotAnEdge n s.from s.to)
  unfolding Decides
  ends_edge next closed from comes to none = record {
    decides = λ steps. inr (closed, inl (from, record { outcome = stepped next; comes = comes; decides = inl (to, inr (none, refl)) }));
  }

-- what a look-up tells of what equals the item that was looked up
pub lacks_same : {X : Type 0} (held : List X) (a b : X) (found : Bool) → a ≡ b → (Contains held a → found ≡ true) → found ≡ false → Contains held b → ⊥
lacks_same {X} held a b found is tells missing has =
    let P : X → Type 0 = λ x. Contains held x in
    let same : false ≡ true = sym missing ∙ tells (subst P (sym is) has) in
    let never : ⊥ = cc in never

pub has_same : {X : Type 0} (held : List X) (a b : X) (found : Bool) → a ≡ b → (found ≡ true → Contains held a) → found ≡ true → Contains held b
has_same {X} held a b found is tells present = (let P : X → Type 0 = λ x. Contains held x in subst P is (tells present))

-- the edge of a step by its parts
pub same_edge : (image : Image) (m next : MachineState) (from to : ℕ) (label : Label) → m.eip ≡ from → next.eip ≡ to → label ≡ label_at image m
    → record { from = from; to = to; label = label } ≡ edge_of image m next
unfolding edge_of
same_edge image m next from to label e f g = cc

-- what two choices have in common
whether : {P Q A B C D : Type 0} → (P → Q) → (Q → P) → (A → C) → (B → D) → Whether P A B → Whether Q C D
whether there back first second (inl (holds, a)) = inl (there holds, first a)
whether there back first second (inr (fails, b)) = inr (λ q. fails (back q), second b)

module _ (image : Image) (stubs : StatedStubs) (a : Automaton) (i : Index) (is : IsIndex a i) (verdict : Verdict) where
  by_outcome : (n : ℕ) (m : MachineState) (s : RunStep) (Later Here : MachineState → Type 0) → ((next : MachineState) → Later next → Here next) → (outcome : StepEnd)
      → ByOutcome image i.edges n m s verdict Later outcome → ByOutcome image a.edges n m s verdict Here outcome
  by_outcome n m s Later Here go (stepped next) h =
      whether (λ e. e) (λ e. e) (λ w. whether (is.edges (edge_of image m next)).0 (is.edges (edge_of image m next)).1 (go next) (λ v. v) w) (λ v. v) h
  by_outcome n m s Later Here go (faulted kind) h = h
  by_outcome n m s Later Here go not_listed h = h
  by_outcome n m s Later Here go no_stub h = h
  by_outcome n m s Later Here go exited h = h
  by_outcome n m s Later Here go (bad_choice kind) h = h

  pub decided : (steps : List RunStep) (n : ℕ) (m : MachineState) → Decides image stubs i.edges i.opened n m steps verdict → Decides image stubs a.edges (open_of a) n m steps verdict
  unfolding Decides
  decided [] n m h = whether (is.opened m.eip).0 (is.opened m.eip).1 (λ v. v) (λ v. v) h
  decided (s ∷ steps) n m h =
      whether (is.opened m.eip).0 (is.opened m.eip).1 (λ v. v)
      (λ w. whether (λ e. e) (λ e. e) (λ t. record { outcome = t.outcome; comes = t.comes; decides = by_outcome n m s _ _ (λ next l. decided steps (n + 1) next l) t.outcome t.decides }) (λ v. v) w)
      h

-- with so many steps passed, what the others decide is the verdict of all
pub record IsReplaying (image : Image) (stubs : StatedStubs) (i : Index) (start : MachineState) (steps : List RunStep) (done n : ℕ) (m : MachineState) : Type 0 where
  pub number : n ≡ done
  pub goes : (verdict : Verdict) → Decides image stubs i.edges i.opened done m (drop done steps) verdict → Decides image stubs i.edges i.opened 0 start steps verdict

pub none_passed : (image : Image) (stubs : StatedStubs) (i : Index) (start : MachineState) (steps : List RunStep) → IsReplaying image stubs i start steps 0 0 start
none_passed image stubs i start steps = record { number = refl; goes = λ verdict h. h }

module _ (image : Image) (stubs : StatedStubs) (i : Index) (start : MachineState) (steps : List RunStep) (done n : ℕ) (m : MachineState) (is : IsReplaying image stubs i start steps done n m) where
  next_step : (s : RunStep) → done < length steps → s ≡ get_or steps done s → drop done steps ≡ s ∷ drop (done + 1) steps
  next_step s below at = drop-cons steps done s below ∙ ap (λ x. x ∷ drop (suc done) steps) (sym at) ∙ ap (λ k. s ∷ drop k steps) (let e : suc done ≡ done + 1 = omega arith in e)

  pub one_passed : (s : RunStep) (next : MachineState) → done < length steps → s ≡ get_or steps done s → Passes image stubs i n m s next → IsReplaying image stubs i start steps (done + 1) (n + 1) next
  one_passed s next below at passes = record {
    number = ap (λ k. k + 1) is.number;
    goes = λ verdict h. (
        let P : List RunStep → Type 0 = λ ss. Decides image stubs i.edges i.opened done m ss verdict in
        let Q : ℕ → Type 0 = λ k. Decides image stubs i.edges i.opened k m (s ∷ drop (done + 1) steps) verdict in
        let R : ℕ → Type 0 = λ k. Decides image stubs i.edges i.opened (k + 1) next (drop (done + 1) steps) verdict in
        is.goes verdict (subst P (sym (next_step s below at)) (subst Q is.number (passes.goes (drop (done + 1) steps) verdict (subst R (sym is.number) h))))
        );
  }

  pub ended : (s : RunStep) (verdict : Verdict) → done < length steps → s ≡ get_or steps done s → Ends image stubs i n m s verdict → Decides image stubs i.edges i.opened 0 start steps verdict
  ended s verdict below at ends =
      let P : List RunStep → Type 0 = λ ss. Decides image stubs i.edges i.opened done m ss verdict in
      let Q : ℕ → Type 0 = λ k. Decides image stubs i.edges i.opened k m (s ∷ drop (done + 1) steps) verdict in
      is.goes verdict (subst P (sym (next_step s below at)) (subst Q is.number (ends.decides (drop (done + 1) steps))))

  pub all_open : (at : ℕ) → done ≡ length steps → at ≡ m.eip → Contains i.opened at → Decides image stubs i.edges i.opened 0 start steps (ReachedOpen n at)
  unfolding Decides
  all_open at all here held =
      let none : [] ≡ drop done steps = sym (drop_all done steps (omega (arith, all))) in
      let P : List RunStep → Type 0 = λ ss. Decides image stubs i.edges i.opened done m ss (ReachedOpen n at) in
      is.goes (ReachedOpen n at) (subst P none (inl (subst (λ (a : ℕ). Contains i.opened a) here held, ap (λ k. ReachedOpen k at) is.number ∙ ap (ReachedOpen done) here)))

  pub all_inside : (at : ℕ) → done ≡ length steps → at ≡ m.eip → (Contains i.opened at → ⊥) → Decides image stubs i.edges i.opened 0 start steps (Inside n)
  unfolding Decides
  all_inside at all here closed =
      let none : [] ≡ drop done steps = sym (drop_all done steps (omega (arith, all))) in
      let P : List RunStep → Type 0 = λ ss. Decides image stubs i.edges i.opened done m ss (Inside n) in
      is.goes (Inside n) (subst P none (inr (λ h. closed (subst (λ (a : ℕ). Contains i.opened a) (sym here) h), ap Inside is.number)))

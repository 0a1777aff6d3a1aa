-- What a step's answer says, by what stands at EIP.
use Rattle.std.proofs.Common.{◌≡◌, ℕ, Bool, List, take, Option, Some, None, Ok, Err, refl, sym, ◌∙◌, ap, subst, inl, inr}
use Rattle.std.specs.Prelude.{Result, MatchBool}
use Rattle.std.proofs.lemmas.Bool.{eq-eqb}
use Rattle.memory_map.specs.declared.choice.Choice.{Choice}
use Rattle.memory_map.specs.declared.fault.FaultKind.{FaultKind}
use Rattle.memory_map.specs.declared.fault.FaultKind.TheVariants.{Fetch}
use Rattle.memory_map.specs.Image.{EXIT_PLACE, Image, name_at}
use Rattle.memory_map.specs.State.{MachineState}
use Rattle.stub_file.specs.Stubs.{StatedStubs}
use Rattle.x86_syntax.specs.declared.instr.Instr.{Instr}
use Rattle.x86_syntax.specs.Decodes.{decoded}
use Rattle.x86_decoder.specs.Refusals.{GoesOn, LeavesAt}
use Rattle.x86_decoder.proofs.Fronts.{goes_on_front, not_both}
use Rattle.x86_semantics.specs.Does.{does, ended}
use Rattle.x86_semantics.specs.Operands.{Faulted, Next}
use Rattle.x86_machine.specs.declared.outcome.Outcome.{Outcome}
use Rattle.x86_machine.specs.declared.outcome.Outcome.TheVariants as outcomes
use Rattle.x86_machine.specs.StepBy.{AtInstr, AtName, NoInstr, StepBy, StepEnd, exited, faulted, fetched, not_listed, outcome_of, stepped}
use Rattle.x86_machine.specs.Taken.{Answers}

-- what holds of an end by one account holds by another
pub answers_weaker : (P Q : StepEnd → Type 0) (m n : MachineState) (outcome : Outcome) → ((e : StepEnd) → P e → Q e) → Answers P m outcome n → Answers Q m outcome n
answers_weaker P Q m n outcomes.Stepped on h = on (stepped n) h
answers_weaker P Q m n (outcomes.Faulted kind) on h = (on _ h.0, h.1)
answers_weaker P Q m n outcomes.NotListed on h = (on _ h.0, h.1)
answers_weaker P Q m n outcomes.NoStub on h = (on _ h.0, h.1)
answers_weaker P Q m n outcomes.Exited on h = (on _ h.0, h.1)
answers_weaker P Q m n (outcomes.BadChoice kind) on h = (on _ h.0, h.1)
answers_weaker P Q m n outcomes.Memory on h = h

-- ---- an instruction

is_next : (r : Result MachineState FaultKind) (m next : MachineState) → ended m r ≡ Next next → stepped next ≡ outcome_of r
is_next (Ok n) m next e = cc
is_next (Err kind) m next e = cc

is_fault : (r : Result MachineState FaultKind) (m left : MachineState) (kind : FaultKind) → ended m r ≡ Faulted kind left → (faulted kind ≡ outcome_of r) × (left ≡ m)
is_fault (Ok n) m left kind e = cc
is_fault (Err k) m left kind e = ((cc), (cc))

module _ (bytes : List ℕ) (choice : Choice) (m : MachineState) (same : bytes ≡ fetched m) where
  abbrev At : StepEnd → Type 0
  At e = AtInstr (decoded (fetched m)) choice m (fetched m) e

  found_at : (o : Option (Instr × ℕ)) (e : StepEnd) → o ≡ decoded bytes → AtInstr o choice m (fetched m) e → At e
  found_at o e found h =
      let P : Option (Instr × ℕ) → Type 0 = λ p. AtInstr p choice m (fetched m) e in
      subst P (found ∙ ap decoded same) h

  pub instr_next : (i : Instr) (n : ℕ) (next : MachineState) → Some (i, n) ≡ decoded bytes → ended m (does i n choice m) ≡ Next next → At (stepped next)
  instr_next i n next found e = found_at (Some (i, n)) (stepped next) found (is_next (does i n choice m) m next e)

  pub instr_faulted : (i : Instr) (n : ℕ) (left : MachineState) (kind : FaultKind) → Some (i, n) ≡ decoded bytes → ended m (does i n choice m) ≡ Faulted kind left → At (faulted kind) × (left ≡ m)
  instr_faulted i n left kind found e =
      let f = is_fault (does i n choice m) m left kind e in
      (found_at (Some (i, n)) (faulted kind) found f.0, f.1)

  none_at : (e : StepEnd) → None ≡ decoded bytes → NoInstr bytes e → At e
  none_at e found h =
      let P : List ℕ → Type 0 = λ b. NoInstr b e in
      found_at None e found (subst P same h)

  pub instr_ends : None ≡ decoded bytes → GoesOn bytes → At (faulted Fetch)
  instr_ends found on = none_at (faulted Fetch) found (inl (on, refl))

  pub instr_unlisted : None ≡ decoded bytes → (GoesOn bytes → ⊥) → At not_listed
  instr_unlisted found off = none_at not_listed found (inr (off, refl))

-- what goes on leaves nowhere
pub leaves_ends : (at : ℕ) (bytes : List ℕ) → LeavesAt at (take 15 bytes) → GoesOn bytes → ⊥
leaves_ends at bytes leaves on = not_both at bytes leaves (goes_on_front bytes on)

-- ---- the exit place

pub exit_step : (image : Image) (stubs : StatedStubs) (choice : Choice) (m : MachineState) → m.eip ≡ EXIT_PLACE → StepBy image stubs choice m exited
unfolding StepBy
exit_step image stubs choice m at =
    let P : Bool → Type 0 = λ b. MatchBool b (exited ≡ exited) (AtName stubs (name_at image m.eip) choice m exited) in
    subst P (sym (eq-eqb m.eip EXIT_PLACE at)) refl

use Rattle.std.proofs.Common.{◌≡◌, ◌∙◌, ℕ, List, Option, ap, refl, subst, sym}
use Rattle.memory_map.specs.Image.{name_at}
use Rattle.memory_map.specs.State.{MachineState}
use Rattle.x86_machine.specs.StepBy.{AtInstr, AtName, StepBy, fetched, import_outcome}
use Rattle.x86_machine.specs.Taken.{Answers}
use Rattle.x86_syntax.specs.Decodes.{decoded}
use Rattle.std.specs.Prelude.{option_copied}
use Rattle.x86_machine.proofs.Next.{named_step}
use Rattle.x86_machine.proofs.Taking.{answers_weaker, exit_step}
use Rattle.x86_machine.proofs.machine.Machine.step.Goals as goal

pub returns-then-place : goal.returns-then-place
returns-then-place c =
    let eip : c.args.self.now.eip ≡ c.eip-place.result = sym (c.eip-place.ensures ∙ ap (λ (m : MachineState). m.eip) c.self.view_is) in
    (exit_step c.args.image.now c.args.stubs.now c.args.choice.now c.args.self.now (eip ∙ c.if-place.true), refl)

pub returns-in-Some : goal.returns-in-Some
returns-in-Some c =
    let image = c.args.image.now in
    let stubs = c.args.stubs.now in
    let choice = c.args.choice.now in
    let m = c.self.inside.cells in
    let n = c.import.new.cells in
    let outcome = c.import.result in
    let P : MachineState → Type 0 = λ s. Answers (StepBy image stubs choice s) s outcome n in
    subst P c.self.view_is (answers_weaker (λ e. e ≡ import_outcome (option_copied c.find.result) choice m) (StepBy image stubs choice m) m n outcome (λ e h.
    let Q : Option (List ℕ) → Type 0 = λ o. AtName stubs o choice m e in
    named_step image stubs choice m e (λ at. c.if-place.false (c.eip-place.ensures ∙ at))
    (subst Q (c.in-Some.ensures.found ∙ ap (name_at image) c.eip-place.ensures) (h ∙ ap (λ s. import_outcome s choice m) c.find.ensures.found))) c.import.ensures)

pub returns-in-None : goal.returns-in-None
returns-in-None c =
    let image = c.args.image.now in
    let stubs = c.args.stubs.now in
    let choice = c.args.choice.now in
    let m = c.self.inside.cells in
    let n = c.instruction.new.cells in
    let outcome = c.instruction.result in
    let P : MachineState → Type 0 = λ s. Answers (StepBy image stubs choice s) s outcome n in
    subst P c.self.view_is (answers_weaker (AtInstr (decoded (fetched m)) choice m (fetched m)) (StepBy image stubs choice m) m n outcome (λ e h.
    let Q : Option (List ℕ) → Type 0 = λ o. AtName stubs o choice m e in
    named_step image stubs choice m e (λ at. c.if-place.false (c.eip-place.ensures ∙ at))
    (subst Q (c.in-None.ensures.found ∙ ap (name_at image) c.eip-place.ensures) h)) c.instruction.ensures)

-- A call of `demo` has no reason to be refused, and no text that says no.
use Rattle.std.proofs.Common.{◌≡◌, ℕ, ◌⊎◌, true, false, List, Some, sym, subst, inl, inr, ⊎_elim, ◌∙◌}
use Rattle.outside_io.specs.Outside.{Contents, Rose}
use Rattle.memory_map.specs.Image.{Image}
use Rattle.stub_file.specs.Stubs.{StatedStubs}
use Rattle.command_words.specs.declared.task.Options.{Options}
use Rattle.command_words.specs.Words.{Command, Demo, command_of}
use Rattle.jakstab_core.specs.declared.status.Status.{Status}
use Rattle.jakstab_core.specs.declared.status.Status.TheVariants.{Done, VerdictNo, Memory}
use Rattle.jakstab_core.specs.declared.work.Work.{Work}
use Rattle.jakstab_core.specs.declared.work.Work.TheVariants as works
use Rattle.jakstab_core.specs.Tasks.{IsOutput, IsStartRefused}
use Rattle.jakstab_core.specs.Says.{Call, Gain, Says, SaysVerdictNo, IsTextOf, IsStartless, IsFaultless, Answers}
use Rattle.jakstab_core.specs.Laws.{DemosAreDone}

module _ (blocks : ℕ) (options : Options) where
  summary_starts : (work : Work) (image : Image) (status : Status) → work ≡ works.Summarize blocks options → IsStartRefused work image status → ⊥
  summary_starts work image status is refused =
      let P : Work → Type 0 = λ w. IsStartRefused w image status in subst P is refused

  summary_affirms : (work : Work) (stubs : StatedStubs) (image : Image) (text : List ℕ) → work ≡ works.Summarize blocks options → IsOutput work stubs image text true → ⊥
  summary_affirms work stubs image text is output =
      let P : Work → Type 0 = λ w. IsOutput w stubs image text true in
      let same : true ≡ false = (subst P is output).1 in cc

  module _ (a : Call) (out : Gain) (accepted : command_of a.words ≡ Some (Demo blocks options)) where
    demo_faultless : (Rose out.faults_before out.faults_after → ⊥) → IsFaultless a out
    demo_faultless written = record {
      command = Demo blocks options;
      accepted = accepted;
      inputs = (tt, (tt, tt));
      starts = λ status h. summary_starts h.prepared.work h.prepared.image status h.prepared.due h.refused;
      written = written;
    }

    demo_affirms : SaysVerdictNo a out → ⊥
    demo_affirms s =
        let same : s.due.command ≡ Demo blocks options = (let e : Some s.due.command ≡ Some (Demo blocks options) = sym s.due.accepted ∙ accepted in cc) in
        let P : Command → Type 0 = λ command. IsTextOf a.shelf.held command s.text true in
        let of : IsTextOf a.shelf.held (Demo blocks options) s.text true = subst P same s.due.fact in
        summary_affirms of.prepared.work of.prepared.stubs of.prepared.image s.text of.prepared.due of.is

pub demos_are_done : DemosAreDone
demos_are_done status a out note blocks options accepted answers written =
    let P : Status → Type 0 = λ s. Says s a out in
    elim (answers.complete (demo_faultless blocks options a out accepted written)) [
      | inl done ↦ inl done
      | inr other ↦ (elim other [
        | inl refuted ↦ absurd (demo_affirms blocks options a out accepted (subst P refuted answers.says))
        | inr memory ↦ inr memory
      ])
    ]

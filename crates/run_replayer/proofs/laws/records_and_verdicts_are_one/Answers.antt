use Rattle.std.proofs.Common.{◌≡◌, Ok, sym, ◌∙◌, subst}
use Rattle.memory_map.specs.State.{MachineState}
use Rattle.x86_machine.specs.declared.start_fault.StartFault.{StartFault}
use Rattle.std.specs.Prelude.{Result}
use Rattle.run_replayer.specs.Record.{AreMade}
use Rattle.run_replayer.specs.Verdict.{Decides, open_of}
use Rattle.run_replayer.proofs.Once.{decided_once, made_once}
use Rattle.run_replayer.proofs.laws.records_and_verdicts_are_one.Goals as goal

same_state : (r : Result MachineState StartFault) (m n : MachineState) → r ≡ Ok m → r ≡ Ok n → m ≡ n
same_state r m n h k = let e : ◌≡◌ {A = Result MachineState StartFault} (Ok m) (Ok n) = sym h ∙ k in cc

pub returns-clause-records : goal.returns-clause-records
returns-clause-records c = λ image stubs start count r t h k.
    let same = same_state _ h.state k.state h.starts k.starts in
    let P : MachineState → Type 0 = λ m. AreMade image stubs count start.choices m r.steps r.end in
    let once = made_once image stubs count start.choices k.state r.steps t.steps r.end t.end (subst P same h.made) k.made in
    record { steps = once.0; end = once.1 }

pub returns-clause-verdicts : goal.returns-clause-verdicts
returns-clause-verdicts c = λ image stubs a r v w h k.
    let same = same_state _ h.state k.state h.starts k.starts in
    let P : MachineState → Type 0 = λ m. Decides image stubs a.edges (open_of a) 0 m r.steps v in
    decided_once image stubs a.edges (open_of a) 0 k.state r.steps v w (subst P same h.decides) k.decides

-- The further inputs of a task are read one after another.
use Rattle.std.proofs.Common.{List, [], ◌∷◌, ℕ, refl, subst}
use Rattle.std.specs.Prelude.{Option}
use Rattle.std.proofs.lemmas.Result.{err_from_is_err_and}
use Rattle.outside_io.specs.Outside.{Contents}
use Rattle.run_replayer.specs.Grammar.{StatesRecord}
use Rattle.jakstab_core.specs.declared.status.Input.TheVariants as inputs
use Rattle.jakstab_core.specs.Due.{OrMemory}
use Rattle.jakstab_core.specs.Inputs.{AreRefused, File, OfBytes, ShelfCall, automaton_source, limit_of, record_source}
use Rattle.jakstab_core.proofs.Finding.{IsLater, record_refused_later}
use Rattle.jakstab_core.proofs.inputs.read_work.Goals as goal

pub returns-in_err-record-in-Replay-clause-read : goal.returns-in_err-record-in-Replay-clause-read
returns-in_err-record-in-Replay-clause-read g c =
    let r : ShelfCall = record {
      held = g.S.Shelf.contents c.args.shelf.now;
      faults_before = g.S.Shelf.faults c.args.shelf.now;
      faults_after = g.S.Shelf.faults c.read_record_file.new.shelf;
    } in
    let later : ShelfCall = record {
      held = g.S.Shelf.contents c.read_automaton_file.new.shelf;
      faults_before = g.S.Shelf.faults c.read_automaton_file.new.shelf;
      faults_after = g.S.Shelf.faults c.read_record_file.new.shelf;
    } in
    let is : IsLater r later = record { held = c.in_ok-automaton-in-Replay.ensures.contents; before = c.in_ok-automaton-in-Replay.ensures.rising; after = refl } in
    let why : OrMemory (AreRefused r (automaton_source c.in-Replay.automaton.now ∷ record_source c.in-Replay.record.now ∷ [])) c.in_err-record-in-Replay.field-0.0 =
    record_refused_later r later is c.in-Replay.automaton.now c.in-Replay.record.now c.in_ok-automaton-in-Replay.automaton c.in_ok-automaton-in-Replay.ensures.read
    c.in_err-record-in-Replay.field-0.0 c.in_err-record-in-Replay.ensures.read in
    let p = err_from_is_err_and c.from_residual-in_err-record-in-Replay.result c.from_residual-in_err-record-in-Replay.ensures.1 in
    rw (c.in-Replay.is, p.1, p.2) why

pub returns-in_ok-start-in-Run-clause-read : goal.returns-in_ok-start-in-Run-clause-read
returns-in_ok-start-in-Run-clause-read g c = rw (c.in-Run.is) (record { start = c.in_ok-start-in-Run.start; stated = c.in_ok-start-in-Run.ensures.read; is = refl })

pub returns-in_ok-record-in-Replay-clause-read : goal.returns-in_ok-record-in-Replay-clause-read
returns-in_ok-record-in-Replay-clause-read g c =
    let P : Option Contents → Type 0 = λ held. OfBytes held (limit_of inputs.Second) (File c.in-Replay.record.now) (λ text. StatesRecord text c.in_ok-record-in-Replay.record) in
    rw (c.in-Replay.is) (record {
      against = c.in_ok-automaton-in-Replay.automaton;
      told = c.in_ok-automaton-in-Replay.ensures.read;
      recorded = c.in_ok-record-in-Replay.record;
      stated = subst P c.in_ok-automaton-in-Replay.ensures.contents c.in_ok-record-in-Replay.ensures.read;
      is = refl;
    })

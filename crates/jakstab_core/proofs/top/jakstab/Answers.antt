-- What is due is delivered, and the line is noted.
use Rattle.std.proofs.Common.{◌≡◌, ℕ, List, map, ◌∙◌, subst}
use Rattle.std.specs.Prelude.{string_bytes, OnOk, OnErr}
use Rattle.outside_io.specs.Outside.{Gained, GainedPrefix}
use Rattle.jakstab_core.specs.StatusLine.{status_line}
use Rattle.jakstab_core.specs.Says.{Call, Gain}
use Rattle.jakstab_core.proofs.Saying.{answers, delivered_says, noted}
use Rattle.jakstab_core.proofs.top.jakstab.Goals as goal

pub returns : goal.returns
returns g c =
    let asked : Call = record { words = map string_bytes c.args.words.now; shelf = record { held = g.S.Shelf.contents c.args.shelf.now; faults_before = g.S.Shelf.faults c.args.shelf.now; faults_after = g.S.Shelf.faults c.due_output.new.shelf } } in
    let out : Gain = record { before = g.K.Sink.written c.args.out.now; after = g.K.Sink.written c.deliver-status.new.out; faults_before = g.K.Sink.faults c.args.out.now; faults_after = g.K.Sink.faults c.deliver-status.new.out } in
    let note : Gain = record { before = g.K.Sink.written c.args.note.now; after = g.K.Sink.written c.write_all.new.out; faults_before = g.K.Sink.faults c.args.note.now; faults_after = g.K.Sink.faults c.write_all.new.out } in
    let status = c.deliver-status.result in
    let line : c.as_bytes.result.now ≡ status_line status = c.as_bytes.ensures.value ∙ c.deref.ensures.0 ∙ c.line.ensures in
    let P : List ℕ → Type 0 = λ bytes. OnOk c.write_all.result (Gained note.before note.after bytes) in
    let Q : List ℕ → Type 0 = λ bytes. OnErr c.write_all.result (GainedPrefix note.before note.after bytes) in
    answers status asked out note (delivered_says c.due_output.result status asked out c.due_output.ensures c.deliver-status.ensures)
    (noted c.write_all.result (status_line status) note (subst P line c.write_all.ensures.gained) c.write_all.ensures.failed (subst Q line c.write_all.ensures.prefix))

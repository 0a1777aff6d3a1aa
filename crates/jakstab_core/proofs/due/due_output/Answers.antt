-- The words are a command, and what was found of it is due, or why it is refused.
use Rattle.std.proofs.Common.{◌≡◌, ℕ, List, map}
use Rattle.std.specs.Prelude.{string_bytes, option_map, Some}
use Rattle.std.proofs.lemmas.Result.{MatchResult-weaker}
use Rattle.command_words.specs.Reader.{task_of}
use Rattle.command_words.specs.Words.{Command, Demo, command_of, on_image}
use Rattle.jakstab_core.specs.Inputs.{ShelfCall}
use Rattle.jakstab_core.specs.Says.{Call}
use Rattle.jakstab_core.proofs.Saying.{refused}
use Rattle.jakstab_core.proofs.due.due_output.Goals as goal

pub returns-in-Ok-OnImage : goal.returns-in-Ok-OnImage
returns-in-Ok-OnImage g c =
    let asked : Command =
    on_image c.in-Ok-OnImage.command.image.now (option_map (λ s. s.now) c.in-Ok-OnImage.command.stubs) (task_of c.in-Ok-OnImage.command.task) in
    let call : Call = record {
      words = map string_bytes c.args.words.now;
      shelf = record { held = g.S.Shelf.contents c.args.shelf.now; faults_before = g.S.Shelf.faults c.args.shelf.now; faults_after = g.S.Shelf.faults c.on_image.new.shelf };
    } in
    let accepted : command_of call.words ≡ Some asked = rw c.in-Ok-OnImage.field-0-is at c.in-Ok-OnImage.ensures in
    MatchResult-weaker c.on_image.result c.on_image.ensures
    (λ o found. record { command = asked; accepted = accepted; fact = found })
    (λ status why. refused call asked accepted status why)

pub returns-in-Ok-Demo : goal.returns-in-Ok-Demo
returns-in-Ok-Demo g c =
    let asked : Command = Demo c.in-Ok-Demo.blocks c.in-Ok-Demo.options in
    let call : Call = record {
      words = map string_bytes c.args.words.now;
      shelf = record { held = g.S.Shelf.contents c.args.shelf.now; faults_before = g.S.Shelf.faults c.args.shelf.now; faults_after = g.S.Shelf.faults c.args.shelf.now };
    } in
    let accepted : command_of call.words ≡ Some asked = rw c.in-Ok-Demo.field-0-is at c.in-Ok-Demo.ensures in
    MatchResult-weaker c.on_demo.result (c.on_demo.ensures call.shelf)
    (λ o found. record { command = asked; accepted = accepted; fact = found })
    (λ status why. refused call asked accepted status why)

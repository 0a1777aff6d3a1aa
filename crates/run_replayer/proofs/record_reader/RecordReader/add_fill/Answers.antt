use Rattle.std.proofs.Common.{◌≡◌, List, [], ◌∷◌, ◌++◌, ◌∙◌, sym, ap}
use Rattle.std.proofs.lemmas.Result.{on_ok_weaker}
use Rattle.memory_map.specs.declared.choice.Choice.{Choice}
use Rattle.run_replayer.specs.declared.record.RunStep.{RunStep}
use Rattle.run_replayer.specs.Grammar.{with_fill, with_record_fill}
use Rattle.run_replayer.proofs.FillFacts.{filled_step}
use Rattle.run_replayer.proofs.record_reader.RecordReader.add_fill.Goals as goal

pub returns-in_ok-step-in-Some : goal.returns-in_ok-step-in-Some
returns-in_ok-step-in-Some c =
    let grown : c.in_ok-step-in-Some.field-0 ≡ with_fill c.args.fill c.in-Some.step.choice = c.in_ok-step-in-Some.ensures in
    on_ok_weaker c.push.result
    (λ e.
    ap (λ (items : List RunStep). record c.args.self.now { steps = items }) e
    ∙ ap (λ (choice : Choice). record c.args.self.now { steps = c.pop.new.self ++ record c.in-Some.step { choice = choice } ∷ [] }) grown
    ∙ sym (filled_step c.args.self.now c.args.fill c.pop.new.self c.in-Some.step)
    ∙ ap (λ (items : List RunStep). with_record_fill c.args.fill items c.args.self.now) (sym c.in-Some.ensures))
    c.push.ensures

use Rattle.std.proofs.Common.{◌≡◌, List, [], ◌∷◌, ◌++◌, ◌∙◌, sym, ap}
use Rattle.std.proofs.lemmas.Result.{on_ok_weaker}
use Rattle.memory_map.specs.declared.choice.Choice.{Choice}
use Rattle.run_replayer.specs.Grammar.{with_fill, with_start_fill}
use Rattle.run_replayer.proofs.FillFacts.{filled_choice}
use Rattle.run_replayer.proofs.start_reader.StartReader.add_fill.Goals as goal

pub returns-in_ok-with_fill-in-Some : goal.returns-in_ok-with_fill-in-Some
returns-in_ok-with_fill-in-Some c =
    let grown : c.in_ok-with_fill-in-Some.field-0 ≡ with_fill c.args.fill c.in-Some.choice = c.in_ok-with_fill-in-Some.ensures in
    on_ok_weaker c.push.result
    (λ e.
    ap (λ (items : List Choice). record c.args.self.now { choices = items }) e
    ∙ ap (λ (choice : Choice). record c.args.self.now { choices = c.pop.new.self ++ choice ∷ [] }) grown
    ∙ sym (filled_choice c.args.self.now c.args.fill c.pop.new.self c.in-Some.choice)
    ∙ ap (λ (items : List Choice). with_start_fill c.args.fill items c.args.self.now) (sym c.in-Some.ensures))
    c.push.ensures

-- Where the number is a row's, its location is marked.
use Rattle.std.proofs.Common.{[], ◌∷◌, ◌++◌, sym, ◌∙◌, ap}
use Rattle.std.proofs.lemmas.List.{append-nil}
use Rattle.flow_worklist.proofs.Marking.{mark_at, no_mark_at}
use Rattle.flow_worklist.proofs.automaton.push_expansion_mark.Goals as goal

pub returns-in-None : goal.returns-in-None
returns-in-None g c =
    sym (ap (λ l. c.args.out.now.items ++ l) (no_mark_at c.args.rows.now c.args.number c.args.cause c.in-None.ensures) ∙ append-nil c.args.out.now.items)

pub returns-in_ok-push-in-Some : goal.returns-in_ok-push-in-Some
returns-in_ok-push-in-Some g c =
    c.in_ok-push-in-Some.ensures.items
    ∙ ap (λ m. c.args.out.now.items ++ m ∷ []) c.open_at.ensures
    ∙ sym (ap (λ l. c.args.out.now.items ++ l) (mark_at c.args.rows.now c.args.number c.in-Some.at c.args.cause c.in-Some.ensures))

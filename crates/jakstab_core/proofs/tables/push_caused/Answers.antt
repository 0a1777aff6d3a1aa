-- Where the number is a row's, its location is pushed.
use Rattle.std.proofs.Common.{◌++◌, sym, ◌∙◌, ap, append-nil}
use Rattle.jakstab_core.proofs.Tabling.{mark-at, no-mark}
use Rattle.jakstab_core.proofs.tables.push_caused.Goals as goal

pub returns-in-None : goal.returns-in-None
returns-in-None c =
    sym (ap (λ l. c.args.found.now.items ++ l) (no-mark c.args.rows.now c.args.number c.args.cause c.in-None.ensures) ∙ append-nil c.args.found.now.items)

pub returns-in_ok-push-in-Some : goal.returns-in_ok-push-in-Some
returns-in_ok-push-in-Some c =
    c.in_ok-push-in-Some.ensures.items
    ∙ sym (ap (λ l. c.args.found.now.items ++ l) (mark-at c.args.rows.now c.args.number c.in-Some.at c.args.cause c.in-Some.ensures))

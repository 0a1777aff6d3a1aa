-- The causes' locations, and then those of the rows that were not expanded.
use Rattle.std.proofs.Common.{◌++◌, map, ap, sym, ◌∙◌}
use Rattle.std.specs.Prelude.{filter_map, flat_map}
use Rattle.flow_log.specs.Log.{expansion_mark}
use Rattle.jakstab_core.specs.Tables.{left_at}
use Rattle.jakstab_core.proofs.Tabling.{at, marks-at}
use Rattle.jakstab_core.proofs.tables.open_of.Goals as goal

pub returns : goal.returns
returns c =
    let log = c.args.log.now in
    let caused = map at (filter_map (expansion_mark log.rows) log.causes) in
    let first = rw (c.rows.ensures, c.causes.ensures) at c.in_ok-push_all_caused.ensures in
    let second = rw c.rows-2.ensures at c.in_ok-push_all_unexpanded.ensures in
    second ∙ ap (λ l. l ++ flat_map left_at log.rows) (first ∙ ap (λ l. l ++ caused) c.new-found.ensures.items) ∙ sym (marks-at log)

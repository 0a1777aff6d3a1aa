-- One more row.
use Rattle.std.proofs.Common.{◌++◌, ◌<◌, length, take, ap, sym, ◌∙◌, append_assoc, arith}
use Rattle.std.specs.Prelude.{flat_map}
use Rattle.jakstab_core.specs.Tables.{left_at}
use Rattle.jakstab_core.proofs.Tabling.{left-more}
use Rattle.jakstab_core.proofs.tables.push_all_unexpanded.Goals as goal

pub loop-row-preserved : goal.loop-row-preserved
loop-row-preserved c =
    let rows = c.args.rows.now in
    let i = c.loop-row.row-index in
    let row = c.row-item.result in
    let within : i < length rows = omega arith in
    c.in_ok-push_unexpanded.ensures
    ∙ ap (λ l. l ++ left_at row) c.loop-row.invariant
    ∙ append_assoc c.args.found.now.items (flat_map left_at (take i rows)) (left_at row)
    ∙ ap (λ l. c.args.found.now.items ++ l) (sym (left-more rows i row within c.row-item.is))

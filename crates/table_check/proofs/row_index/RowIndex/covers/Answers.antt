-- The rows of a location's numbers are those that are there.
use Rattle.std.proofs.Common.{◌∙◌, ap, Bool, List, ℕ}
use Rattle.std.specs.List.{list_any}
use Rattle.domain_laws.specs.Made.{values_of}
use Rattle.abstract_state.specs.State.{Known, covers_state}
use Rattle.table_check.specs.Checking.{covers_at}
use Rattle.table_check.proofs.Indexing.{any_kept}
use Rattle.table_check.proofs.row_index.RowIndex.covers.Goals as goal

pub returns : goal.returns
returns g c =
    let d = values_of g.D.Domain g.D.PartialEq.eq in
    let rows = c.args.rows.now in
    let s = c.args.s.now in
    let numbers : List ℕ → Bool = list_any (covers_at d rows s) in
    c.any_covers.ensures ∙ ap numbers c.at.ensures
    ∙ any_kept (λ (t : Known g.row.D.Denot). covers_state d t s) c.args.at c.args.self.now rows c.requires

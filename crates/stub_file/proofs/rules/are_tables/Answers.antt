use Rattle.std.proofs.Common.{◌∙◌, is_some, sym}
use Rattle.std.proofs.lemmas.List.Folds.{list_all-map}
use Rattle.toml.specs.Data.{as_table}
use Rattle.toml.specs.View.{view}
use Rattle.stub_file.proofs.rules.are_tables.Goals as goal

pub returns-then-is_array : goal.returns-then-is_array
returns-then-is_array c =
    rw (← c.if-is_array.ensures, ← c.items_of.ensures)
    (c.are_all_tables.ensures ∙ sym (list_all-map (λ d. is_some (as_table d)) view c.items_of.result.now))

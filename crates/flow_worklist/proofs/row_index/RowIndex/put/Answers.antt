-- What was under a key is under it still.
use Rattle.std.proofs.Common.{[], ◌∷◌, ◌++◌, sym, ◌∙◌, ap}
use Rattle.std.specs.Prelude.{nat_eq}
use Rattle.std.proofs.lemmas.Bool.{eqb-true}
use Rattle.indexmap.specs.IndexMap.{get}
use Rattle.flow_worklist.specs.Grouping.{places_at}
use Rattle.flow_worklist.proofs.Grouping.{put-kept}
use Rattle.flow_worklist.proofs.row_index.RowIndex.put.Goals as goal

pub returns-clause-kept : goal.returns-clause-kept
returns-clause-kept c =
    let k = c.args.key in
    let before = c.args.self.now in
    λ key p h. put-kept (λ v. v.items) k key (get nat_eq before.places key) (get nat_eq c.take-places.new.self.places key) (get nat_eq c.insert.new.self key)
    (places_at before k) c.push.new.self c.args.place p
    (c.in_ok-insert.ensures.updates.0 key)
    (c.take-places.ensures.others key)
    (λ is. ap (places_at before) (sym (eqb-true k key is)))
    (c.in_ok-push.ensures.items ∙ ap (λ l. l ++ c.args.place ∷ []) c.take-places.ensures.places)
    h

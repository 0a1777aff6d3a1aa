-- One row more is one number more at its location, and nothing elsewhere.
use Rattle.std.proofs.Common.{rules, ◌≡◌, length, List, [], ◌∷◌, ◌++◌, Some, nat_lt, sym, ◌∙◌, ap, subst, ◌==◌}
use Rattle.std.specs.HashMap.{get}
use Rattle.std.specs.Prelude.{nat_eq}
use Rattle.std.proofs.lemmas.Bool.{eq-eqb}
use Rattle.std.proofs.lemmas.Result.{on_ok_weaker}
use Rattle.domain_laws.specs.Made.{values_of}
use Rattle.flow_log.specs.Log.{Row}
use Rattle.abstract_state.specs.State.{Known}
use Rattle.flow_worklist.specs.Exploring.{IsOf, IsKept}
use Rattle.flow_worklist.proofs.Indexing.{is_more, is_elsewhere}
use Rattle.flow_worklist.proofs.exploring.Exploration.push_row.Goals as goal

pub put-requires-clause-taken : goal.put-requires-clause-taken
put-requires-clause-taken g c =
    let d = values_of g.D.Domain g.D.PartialEq.eq in
    let at = c.args.at in
    let row = c.new-row.result in
    let rows = c.args.self.now.rows.items in
    let kept = c.index_many.new.self in
    let located : row.location ≡ at = ap (λ r. r.location) c.new-row.ensures in
    let stated : row.state ≡ c.args.state = ap (λ r. r.state) c.new-row.ensures in
    let P : List (Row (Known g.row.D.Denot)) → Type 0 = λ l. IsOf d c.add.new.self at l in
    let count : c.len-number.result ≡ length rows = search rules in
    let numbers = c.in_ok-add.ensures.numbers ∙ ap (λ n. kept.numbers.items ++ n ∷ []) count in
    let Q : List (Row (Known g.row.D.Denot)) → Type 0 = λ l. IsOf d kept at l in
    let before : IsOf d kept at rows = subst Q c.deref.ensures.value c.in_ok-index_many.ensures in
    λ κs h. subst P (sym c.in_ok-push.ensures.items)
    (is_more d kept c.add.new.self at rows row c.args.state stated (eq-eqb row.location at located) c.requires.well before numbers c.in_ok-add.ensures.seen c.in_ok-add.ensures.index)

pub put-requires-clause-others : goal.put-requires-clause-others
put-requires-clause-others g c =
    let d = values_of g.D.Domain g.D.PartialEq.eq in
    let at = c.args.at in
    let row = c.new-row.result in
    let rows = c.args.self.now.rows.items in
    let before = c.args.self.now in
    let located : row.location ≡ at = ap (λ r. r.location) c.new-row.ensures in
    λ κs h. record {
      kept = λ q apart.
          let P : List (Row (Known g.row.D.Denot)) → Type 0 = λ l. IsKept d (get nat_eq before.visits q) q l in
          subst P (sym c.in_ok-push.ensures.items) (is_elsewhere d (get nat_eq before.visits q) q rows row (ap (λ a. a == q) located ∙ apart) (c.requires.others.kept q apart));
    }

pub index_many-requires-after_bounds : goal.index_many-requires-after_bounds
index_many-requires-after_bounds g c κs within =
    let d = values_of g.D.Domain g.D.PartialEq.eq in
    let P : List (Row (Known g.row.D.Denot)) → Type 0 = λ l. IsOf d c.args.visits c.args.at l in
    subst P (sym c.deref.ensures.value) c.requires.taken

pub returns-clause-rows : goal.returns-clause-rows
returns-clause-rows g c =
    let rows = c.args.self.now.rows.items in
    let count : c.len-number.result ≡ length rows = search rules in
    let row = c.new-row.ensures
    ∙ ap (λ n. let r : Row (Known g.row.D.Denot) = record { parent = Some c.args.parent; location = c.args.at; state = c.args.state; expanded = nat_lt n c.args.budget } in r) count in
    on_ok_weaker c.put.result (λ done. ap (λ v. v.items) c.put.ensures.rows ∙ c.in_ok-push.ensures.items ∙ ap (λ r. rows ++ r ∷ []) row) c.put.ensures.indexed

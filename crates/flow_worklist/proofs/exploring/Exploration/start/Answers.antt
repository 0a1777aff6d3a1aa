-- The entry has the start state, and no other location has a row.
use Rattle.std.proofs.Common.{◌≡◌, List, [], ◌∷◌, ◌++◌, Some, None, cond, refl, sym, ◌∙◌, ap, subst, ◌==◌}
use Rattle.std.specs.Prelude.{filter, nat_eq}
use Rattle.std.specs.Map.{lookup}
use Rattle.std.specs.HashMap.{get}
use Rattle.std.proofs.lemmas.Bool.{eq-eqb}
use Rattle.domain_laws.specs.Made.{values_of}
use Rattle.flow_log.specs.Log.{Row}
use Rattle.abstract_state.specs.State.{IsWellState, Known}
use Rattle.abstract_state.proofs.Beginning.{start-is_well}
use Rattle.flow_worklist.specs.Exploring.{IsOf}
use Rattle.flow_worklist.proofs.Indexing.{is_new, is_more, kept_put, row_there}
use Rattle.flow_worklist.proofs.exploring.Exploration.start.Goals as goal

pub returns-clause-indexed : goal.returns-clause-indexed
returns-clause-indexed g c =
    let d = values_of g.D.Domain g.D.PartialEq.eq in
    let row = c.new.result in
    let at = c.entry-2.result in
    let first = c.add.new.self in
    let rows = c.push.new.self.items in
    let rows_are : rows ≡ row ∷ [] = c.in_ok-push.ensures.items ∙ ap (λ l. l ++ row ∷ []) c.new-rows.ensures.items in
    let located : row.location ≡ at = ap (λ r. r.location) c.new.ensures ∙ c.entry-3.ensures.entry ∙ sym c.entry-2.ensures.entry in
    let stated : row.state ≡ c.in_ok-state.state = ap (λ r. r.state) c.new.ensures in
    let met = g.met.D.Domain g.world.𝓛 g.world.𝓜 g.world.𝓡 ((λ s x. x), (λ x. x), (λ x. x), λ x. x) in
    let well : IsWellState d c.in_ok-state.state = subst (IsWellState d) (sym c.in_ok-state.ensures) (start-is_well d met.lawful c.args.image.now) in
    let none : IsOf d c.new-first.result at [] = is_new d c.new-first.result at [] c.new-first.ensures.numbers c.new-first.ensures.seen c.new-first.ensures.index refl in
    let one : IsOf d first at (row ∷ []) =
    is_more d c.new-first.result first at [] row c.in_ok-state.state stated (eq-eqb row.location at located) well none c.in_ok-add.ensures.numbers c.in_ok-add.ensures.seen c.in_ok-add.ensures.index in
    let P : List (Row (Known g.row.D.Denot)) → Type 0 = λ l. IsOf d first at l in
    let taken : IsOf d first at rows = subst P (sym rows_are) one in
    record {
      kept = λ q.
          let empty : get nat_eq c.new-visits.result q ≡ None = ap (λ es. lookup (nat_eq q) es) c.new-visits.ensures.empty in
          let now : get nat_eq c.insert.new.self q ≡ cond (nat_eq at q) (Some first) None =
          c.in_ok-insert.ensures.updates.0 q ∙ ap (λ o. cond (nat_eq at q) (Some first) o) empty in
          kept_put d at q first None (get nat_eq c.insert.new.self q) rows now taken
          (λ apart. ap (λ (l : List (Row (Known g.row.D.Denot))). filter (λ r. r.location == q) l) rows_are ∙ row_there row q [] (ap (λ a. a == q) located ∙ apart));
    }

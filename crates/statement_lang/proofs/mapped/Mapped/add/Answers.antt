use Rattle.std.proofs.Common.{◌≡◌, ◌++◌, ◌∷◌, [], ◌∙◌, ℕ, List, ap, insert, length, subst, sym, true}
use Rattle.memory_map.specs.Range.{Range}
use Rattle.statement_lang.specs.Indexed.{IsIndexed, IsRank, may_map}
use Rattle.statement_lang.proofs.Indexing.{more_indexed, rank_same}
use Rattle.statement_lang.proofs.mapped.Mapped.add.Goals as goal

pub invariant_of-self-2 : goal.invariant_of-self-2
invariant_of-self-2 c =
    let held = c.self.inside.held.items in
    let order = c.self.inside.order.items in
    let block = c.args.block in
    let count = c.rank-count.result in
    let Q : ℕ → Type 0 = λ low. IsRank held order low count in
    let rank : IsRank held order block.low count =
    subst Q c.low.ensures (rank_same c.deref.result.now held c.deref-2.result.now order c.low.result count c.deref.ensures.value c.deref-2.ensures.value c.rank-count.ensures) in
    let may : may_map held block ≡ true = ap (λ list. may_map list block) c.self.view_is ∙ c.requires in
    let long : length held ≡ c.len-p.result = ap length (sym c.deref.ensures.value) ∙ c.deref.ensures.len ∙ sym c.len-p.ensures in
    let lists : c.push.new.self.items ≡ held ++ block ∷ [] = c.in_ok-push.ensures.items in
    let places : c.insert.new.self.items ≡ insert order count (length held) =
    c.in_ok-insert.ensures.items ∙ ap (λ l. insert l count c.len-p.result) c.in_ok-try_reserve.ensures.items ∙ ap (insert order count) (sym long) in
    let P : List Range → Type 0 = λ l. IsIndexed l c.insert.new.self.items in
    let R : List ℕ → Type 0 = λ o. IsIndexed (held ++ block ∷ []) o in
    subst P (sym lists) (subst R (sym places) (more_indexed held order c.self.invariant block count rank may))

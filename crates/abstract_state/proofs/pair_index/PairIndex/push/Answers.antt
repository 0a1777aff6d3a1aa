-- The counts are those of the pairs again, once the pair is in.
use Rattle.std.proofs.Common.{◌≡◌, ◌+◌, ◌∷◌, [], ◌++◌, cond, Some, refl, ap, sym, ◌∙◌, count_by}
use Rattle.std.specs.List.{list_any}
use Rattle.indexmap.specs.IndexMap.{get}
use Rattle.domain_laws.specs.Made.{values_of}
use Rattle.abstract_state.specs.Widening.{is_pair, is_rival}
use Rattle.abstract_state.proofs.Seeing.{counted-push, key_eq, pair-pushed}
use Rattle.abstract_state.proofs.pair_index.PairIndex.push.Goals as goal

pub invariant_of-self-2 : goal.invariant_of-self-2
invariant_of-self-2 g c =
    let d = values_of g.D.Domain g.D.PartialEq.eq in
    let met = g.met.D.Domain g.world.𝓛 g.world.𝓜 g.world.𝓡 ((λ s x. x), (λ x. x), (λ x. x), λ x. x) in
    let pairs = c.self.inside.pairs.keys in
    let counts = c.self.inside.counts in
    let h = c.args.holder in
    let v = c.args.value in
    let n = c.args.count in
    let counted : n ≡ count_by (is_rival d h (d.rank v)) pairs = c.requires.count ∙ sym (ap (count_by (is_rival d h (d.rank v))) c.self.view_is) in
    counted-push d pairs c.insert-2.new.self.keys counts c.insert.new.self h v n c.self.invariant counted
    (λ q. c.in_ok-insert.ensures.updates.0 q ∙ ap (λ r. cond (key_eq (h, r) q) (Some (n + 1)) (get key_eq counts q)) c.rank.ensures)
    (pair-pushed d met.lawful h v pairs pairs c.reserve.new.self.keys c.insert-2.new.self.keys refl c.in_ok-reserve.ensures.keys
    (ap (list_any (is_pair d h v)) c.self.view_is ∙ c.requires.other) c.in_ok-insert-2.ensures.keys)

pub returns-clause-ok : goal.returns-clause-ok
returns-clause-ok g c =
    let d = values_of g.D.Domain g.D.PartialEq.eq in
    let met = g.met.D.Domain g.world.𝓛 g.world.𝓜 g.world.𝓡 ((λ s x. x), (λ x. x), (λ x. x), λ x. x) in
    pair-pushed d met.lawful c.args.holder c.args.value c.args.self.now c.self.inside.pairs.keys c.reserve.new.self.keys c.insert-2.new.self.keys
    c.self.view_is c.in_ok-reserve.ensures.keys c.requires.other c.in_ok-insert-2.ensures.keys

-- The group that is found is one of the groups.
use Rattle.std.proofs.Common.{◌≡◌, List, length, get_or, refl, sym, ◌∙◌, ap, arith}
use Rattle.domain_laws.specs.Made.{values_of}
use Rattle.flow_worklist.specs.declared.row_index.Group.{Group}
use Rattle.flow_worklist.specs.declared.told.Told.TheVariants.{Numbers}
use Rattle.flow_worklist.specs.Telling.{told_at}
use Rattle.flow_worklist.proofs.row_index.RowIndex.group_of.Goals as goal

pub returns-in-Numbers : goal.returns-in-Numbers
returns-in-Numbers g c =
    let d = values_of g.D.Domain g.D.PartialEq.eq in
    let group = c.group-item.result in
    let told : told_at d group.holders.items c.args.s.now ≡ Numbers c.in-Numbers.digest =
    ap (λ hs. told_at d hs c.args.s.now) (sym c.as_slice.ensures.value) ∙ sym c.told_at.ensures ∙ c.in-Numbers.is in
    let i = c.loop-group.group-index in
    let items = c.deref-group-items.ensures.value in
    let count : length c.deref-group-items.result.now ≡ length c.args.self.now.groups.items = ap (λ (gs : List Group). length gs) items in
    let at : get_or c.args.self.now.groups.items i group ≡ group = ap (λ (gs : List Group). get_or gs i group) (sym items) ∙ sym c.group-item.is in
    (i, group, omega arith, at, (refl, told))

use Rattle.std.proofs.Common.{sym, ◌∙◌, subst}
use Rattle.domain_laws.specs.Made.{values_of}
use Rattle.partitioned_memory.specs.Well.{IsWell}
use Rattle.partitioned_memory.proofs.BuiltParts.{built-holds, dirty_pairs-ascend, fact_pairs-ascend}
use Rattle.partitioned_memory.proofs.parts.Parts.build.Goals as goal

pub build-requires : goal.build-requires
build-requires g c =
    fact_pairs-ascend (values_of g.D.Domain g.D.PartialEq.eq) c.args.facts.now c.args.dirty.now c.args.blocks.now c.requires c.deref.result.now (c.deref.ensures.value ∙ c.in_ok-held.ensures)

pub build-requires-2 : goal.build-requires-2
build-requires-2 g c =
    dirty_pairs-ascend (values_of g.D.Domain g.D.PartialEq.eq) c.args.facts.now c.args.dirty.now c.args.blocks.now c.requires c.deref-2.result.now (c.deref-2.ensures.value ∙ c.in_ok-sizes.ensures)

pub invariant_of-result : goal.invariant_of-result
invariant_of-result g c =
    let d = values_of g.D.Domain g.D.PartialEq.eq in
    subst (IsWell d) (sym (built-holds d c.args.facts.now c.args.dirty.now c.args.blocks.now c.requires c.in_ok-build.field-0 c.in_ok-build-2.field-0 c.in_ok-from_slice.field-0.items
    (c.in_ok-build.ensures ∙ c.deref.ensures.value ∙ c.in_ok-held.ensures) (c.in_ok-build-2.ensures ∙ c.deref-2.ensures.value ∙ c.in_ok-sizes.ensures) c.in_ok-from_slice.ensures.items)) c.requires

pub returns : goal.returns
returns g c =
    built-holds (values_of g.D.Domain g.D.PartialEq.eq) c.args.facts.now c.args.dirty.now c.args.blocks.now c.requires c.in_ok-build.field-0 c.in_ok-build-2.field-0 c.in_ok-from_slice.field-0.items
    (c.in_ok-build.ensures ∙ c.deref.ensures.value ∙ c.in_ok-held.ensures) (c.in_ok-build-2.ensures ∙ c.deref-2.ensures.value ∙ c.in_ok-sizes.ensures) c.in_ok-from_slice.ensures.items

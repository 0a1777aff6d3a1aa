use Rattle.std.proofs.Common.{◌∙◌, subst, sym}
use Rattle.bit_words.specs.declared.width.Width.TheVariants.{B32}
use Rattle.domain_laws.specs.Made.{values_of}
use Rattle.partitioned_memory.specs.Well.{MayHold}
use Rattle.abstract_state.specs.State.{Known}
use Rattle.import_stubs.proofs.Replying.{too-large}
use Rattle.import_stubs.proofs.call.Call.hand_out.Goals as goal

pub land-requires-clause-value : goal.land-requires-clause-value
land-requires-clause-value g c κs within =
    let d = values_of g.D.Domain g.D.PartialEq.eq in
    subst (λ (k : Known g.row.D.Denot). MayHold d k.parts.blocks B32 c.block_place.result) (sym c.in_ok-add_block.ensures.ok) (c.block_place.ensures.holds _)

pub returns-then-size-gt-LARGEST_BLOCK : goal.returns-then-size-gt-LARGEST_BLOCK
returns-then-size-gt-LARGEST_BLOCK g c =
    let d = values_of g.D.Domain g.D.PartialEq.eq in
    c.ended.ensures ∙ sym (too-large d c.args.self.now.image.now c.args.top c.args.site c.args.size c.args.zeroed c.args.p c.if-size-gt-LARGEST_BLOCK.true)

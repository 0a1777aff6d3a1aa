use Rattle.std.proofs.Common.{◌≡◌, Some, None, ap, sym, ◌∙◌}
use Rattle.std.specs.Prelude.{slice_get}
use Rattle.partitioned_memory.specs.Held.{is_counted, one_block}
use Rattle.partitioned_memory.proofs.BuiltParts.{Falls-counts, counted-nowhere, counted-there}
use Rattle.partitioned_memory.proofs.counts.Counts.is_counted.Goals as goal

pub counts_before-at-requires : goal.counts_before-at-requires
counts_before-at-requires c = Falls-counts (one_block c.args.region) c.self.inside.blocks.now c.self.invariant

pub returns-in-Some : goal.returns-in-Some
returns-in-Some c =
    let there : slice_get c.self.inside.blocks.now c.counts_before-at.result ≡ Some c.in-Some.c = sym c.in-Some.ensures in
    c.is_of.ensures
    ∙ sym (counted-there c.args.region c.self.inside.blocks.now c.counts_before-at.result c.in-Some.c c.self.invariant c.counts_before-at.ensures.front c.counts_before-at.ensures.back there)
    ∙ ap (is_counted c.args.region) c.self.view_is

pub returns-in-None : goal.returns-in-None
returns-in-None c =
    let nowhere : slice_get c.self.inside.blocks.now c.counts_before-at.result ≡ None = sym c.in-None.ensures in
    sym (counted-nowhere c.args.region c.self.inside.blocks.now c.counts_before-at.result c.self.invariant c.counts_before-at.ensures.front c.counts_before-at.ensures.back nowhere)
    ∙ ap (is_counted c.args.region) c.self.view_is

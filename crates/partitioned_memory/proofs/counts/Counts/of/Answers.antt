use Rattle.std.proofs.Common.{sym, ◌∙◌}
use Rattle.partitioned_memory.proofs.BuiltParts.{counts-ascend}
use Rattle.partitioned_memory.proofs.counts.Counts.of.Goals as goal

pub invariant_of-result : goal.invariant_of-result
invariant_of-result c = counts-ascend c.args.blocks.now (sym c.counts_ascend.ensures ∙ c.if-counts_ascend.true)

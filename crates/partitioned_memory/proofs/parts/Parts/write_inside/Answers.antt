use Rattle.partitioned_memory.proofs.Orders.{inside-passed}
use Rattle.partitioned_memory.proofs.parts.Parts.write_inside.Goals as goal

pub write_over-requires-clause-inside : goal.write_over-requires-clause-inside
write_over-requires-clause-inside g c κs within =
    inside-passed c.args.area c.args.low c.args.high c.to.result c.ranges.low c.ranges.high c.if-high-low.false c.requires.inside c.to.ensures

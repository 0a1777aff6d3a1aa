use Rattle.std.proofs.Common.{arith, take, lit<, length-take-le}
use Rattle.stub_file.specs.Stated.{IsWrite}
use Rattle.toml.specs.View.{view}
use Rattle.stub_file.proofs.Lists.{zip_length, zip_more}
use Rattle.stub_file.proofs.build.writes_of.Goals as goal

pub push-requires : goal.push-requires
push-requires c =
    let many = zip_length (λ item w. IsWrite (view item) w) (take c.loop-item.item-index c.args.items.now) c.loop-item.writes.items c.loop-item.invariant in
    (lit< tt, omega (arith, many, length-take-le c.loop-item.item-index c.args.items.now))

pub loop-item-preserved : goal.loop-item-preserved
loop-item-preserved c =
    rw c.push.ensures.items
    (zip_more (λ item w. IsWrite (view item) w) c.args.items.now c.loop-item.writes.items c.loop-item.item-index c.item-item.result c.write_of.result
    c.loop-item-test.true c.item-item.is c.loop-item.invariant c.write_of.ensures)

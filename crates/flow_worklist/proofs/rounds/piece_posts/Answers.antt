-- One row more.
use Rattle.std.proofs.Common.{◌<◌, length, arith}
use Rattle.domain_laws.specs.Made.{values_of}
use Rattle.flow_worklist.proofs.Taking.{posts_more}
use Rattle.flow_worklist.proofs.rounds.piece_posts.Goals as goal

pub loop-i-preserved : goal.loop-i-preserved
loop-i-preserved g c =
    let rows = c.args.rows.now in
    let within : c.loop-i.i < length rows = omega arith in
    posts_more (values_of g.D.Domain g.D.PartialEq.eq) c.args.image.now c.args.stubs.now c.args.k 0 rows c.loop-i.posts.items c.push.new.self.items c.loop-i.i c.index-rows-i.result c.in_ok-post.post within c.index-rows-i.is
    c.in_ok-push.ensures.items c.loop-i.invariant c.in_ok-post.ensures

-- Each piece has the expansions of its rows, whichever thread makes them.
use Rattle.std.proofs.Common.{◌<◌, ◌+◌, ◌^◌, List, length, get_or, subst, arith, rules}
use Rattle.std.specs.Prelude.{IfOk}
use Rattle.std.proofs.lemmas.Result.{IfOk-weaker}
use denote.Param.Send.{sendable}
use Rattle.domain_laws.specs.Made.{values_of}
use Rattle.flow_log.specs.Log.{Row}
use Rattle.abstract_state.specs.State.{Known}
use Rattle.flow_worklist.specs.Rounds.{ArePosts}
use Rattle.flow_worklist.proofs.Taking.{covering, posts_joined}
use Rattle.flow_worklist.proofs.rounds.posts_of.Goals as goal

pub map_chunks-requires-clause-accepts : goal.map_chunks-requires-clause-accepts
map_chunks-requires-clause-accepts g c κs within start chunk is =
    let few = c.requires.few in
    let inside = is.in_bounds in
    let room : c.args.from + start + length chunk.now < 2 ^ 32 = omega (arith, few, inside) in
    let sync = c.type_bounds.sync-D in
    let send = c.type_bounds.send-D in
    let gate = c.type_bounds.sync-G in
    (room, (search sendable depth 20, search sendable depth 20, search sendable depth 20))

pub returns : goal.returns
returns g c =
    let d = values_of g.D.Domain g.D.PartialEq.eq in
    let image = c.args.image.now in
    let stubs = c.args.stubs.now in
    let k = c.args.k in
    let rows = c.args.rows.now in
    let size = c.args.piece in
    let pieces = c.in_ok-pieces.pieces.items in
    let count = c.in_ok-pieces.ensures.len in
    let room = covering (length pieces) (length rows) size c.requires.piece (search rules) in
    IfOk-weaker c.in_order.result _ _
    (λ posts is. posts_joined d image stubs k 0 size pieces rows posts.items room
    (λ n none within.
    let piece = (c.in_ok-pieces.ensures.each n none within).1 in
    let P : List (Row (Known g.row.D.Denot)) → Type 0 = λ l. IfOk (get_or pieces n none) (λ part. ArePosts d image stubs k l part.items) in
    subst P piece.argument_is.value piece.call) is) c.in_order.ensures

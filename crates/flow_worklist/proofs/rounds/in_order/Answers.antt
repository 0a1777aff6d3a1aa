-- One more piece.
use Rattle.std.proofs.Common.{◌≡◌, List, [], ◌∷◌, length, sym, ◌∙◌, ap, arith, rules, vec_len}
use Rattle.std.specs.Prelude.{Result, Vec}
use Rattle.std.specs.Vec.Iter.{into_iter_items}
use Rattle.std.specs.declared.alloc.Global.{Global}
use Rattle.bit_words.specs.declared.memory.NoMemory.{NoMemory}
use Rattle.flow_worklist.specs.declared.post.Post.{Post}
use Rattle.flow_worklist.proofs.Taking.{joining_starts, joining_more, joining_ends, no_length}
use Rattle.flow_worklist.proofs.rounds.in_order.Goals as goal

pub loop-piece-init : goal.loop-piece-init
loop-piece-init g c =
    let pieces = c.args.pieces in
    let gives = c.into_iter-piece-iterator.ensures.into_iter_gives in
    let count : vec_len pieces ≡ length pieces.items = pieces.ok.0 in
    record {
      count = gives.1 ∙ count ∙ sym (ap (λ (l : List (Result (Vec (Post g.row.D.Denot) Global) NoMemory)). length l) gives.0);
      joined = joining_starts pieces.items (into_iter_items c.into_iter-piece-iterator.result) c.new-posts.result.items gives.0 (search rules);
    }

pub loop-piece-preserved : goal.loop-piece-preserved
loop-piece-preserved g c =
    let rest = into_iter_items c.next.new.self in
    let steps = c.in-Some.ensures.steps in
    let left : length (into_iter_items c.loop-piece.piece-iterator) ≡ length (c.in-Some.piece ∷ rest) =
    ap (λ (l : List (Result (Vec (Post g.row.D.Denot) Global) NoMemory)). length l) steps.0 in
    record {
      count = omega (arith, steps.1, c.loop-piece.invariant.count, left);
      joined = joining_more c.args.pieces.items (into_iter_items c.loop-piece.piece-iterator) rest c.in-Some.piece c.in_ok-more.more c.loop-piece.posts.items c.append.new.self.items
          steps.0 c.in_ok-more.was c.in_ok-append.ensures.items c.loop-piece.invariant.joined;
    }

pub returns : goal.returns
returns g c =
    let none : into_iter_items c.loop-piece.piece-iterator ≡ [] =
    no_length (into_iter_items c.loop-piece.piece-iterator) (sym c.loop-piece.invariant.count ∙ c.in-None.ensures.steps.0) in
    joining_ends c.args.pieces.items (into_iter_items c.loop-piece.piece-iterator) c.loop-piece.posts.items none c.loop-piece.invariant.joined

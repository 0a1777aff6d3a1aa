use Rattle.std.proofs.Common.{◌∙◌, sym, ap, arith}
use Rattle.memory_map.specs.Map.{range_of}
use Rattle.memory_map.specs.Patch.{patched}
use Rattle.memory_map.proofs.Patching.{patched-more}
use Rattle.memory_map.proofs.patch.put_in_each.Goals as goal

pub loop-i-preserved : goal.loop-i-preserved
loop-i-preserved c =
    let both = patched-more c.args.a c.args.word c.args.list.now c.loop-i.list c.loop-i.i c.index-list-i.result c.put_word.new.self (omega arith) c.loop-i.auto.list c.index-list-i.is (c.put_word.ensures ∙ ap (λ s. patched c.args.a c.args.word (range_of s)) (sym c.index-list-i.is)) c.loop-i.invariant.done c.loop-i.invariant.rest in
    record { done = both.0; rest = both.1 }

use Rattle.std.proofs.Common.{◌+◌, ◌-◌, ap, sym, ◌∙◌, arith}
use Rattle.memory_map.specs.State.{memory}
use Rattle.x86_semantics.specs.Memory.{may_write_all}
use Rattle.statement_lang.proofs.Counting.{all-goes, all-stops, all-none}
use Rattle.statement_lang.proofs.cells.Cells.may_store.Goals as goal

pub loop-i-preserved : goal.loop-i-preserved
loop-i-preserved c =
    let ranges = memory c.args.self.now in
    let end = c.bytes-i-end.result in
    let i = c.loop-i._i in
    ap (λ a. may_write_all ranges (end - (i + 1)) a) c.next_byte-at.ensures
    ∙ sym (all-goes ranges (end - i) (end - (i + 1)) c.loop-i.at (omega arith) (sym c.may_write.ensures ∙ c.if-not-may_write.false))
    ∙ c.loop-i.invariant

pub returns : goal.returns
returns c =
    let ranges = memory c.args.self.now in
    sym (all-none ranges (c.bytes-i-end.result - c.loop-i._i) c.loop-i.at (omega arith))
    ∙ c.loop-i.invariant
    ∙ ap (λ n. may_write_all ranges n c.args.a) c.bytes-i-end.ensures

pub returns-then-not-may_write : goal.returns-then-not-may_write
returns-then-not-may_write c =
    let ranges = memory c.args.self.now in
    let end = c.bytes-i-end.result in
    let i = c.loop-i._i in
    sym (all-stops ranges (end - i) (end - (i + 1)) c.loop-i.at (omega arith) (sym c.may_write.ensures ∙ c.if-not-may_write.true))
    ∙ c.loop-i.invariant
    ∙ ap (λ n. may_write_all ranges n c.args.a) c.bytes-i-end.ensures

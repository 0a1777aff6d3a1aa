use Rattle.std.proofs.Common.{◌∙◌}
use Rattle.statement_lang.proofs.Indexing.{IsUntil, found, until_none, until_placed}
use Rattle.statement_lang.proofs.mapped.Mapped.writable_until.Goals as goal

pub returns-in-Some : goal.returns-in-Some
returns-in-Some c =
    let f = found c.self.inside.held.items c.deref.result.now c.index.result.now c.args.a c.in-Some.p c.deref.ensures.value c.in-Some.ensures.some c.index.ensures in
    let until = until_placed c.self.inside.held.items c.args.self.now c.index.result.now c.args.a c.in-Some.p c.writable_end.result c.self.view_is c.self.invariant.memory.apart f c.writable_end.ensures in
    record { on = until.on; each = until.each; none = until.none }

pub returns-in-None : goal.returns-in-None
returns-in-None c =
    let until = until_none c.deref.result.now c.args.self.now c.args.a (c.deref.ensures.value ∙ c.self.view_is) c.in-None.ensures.none in
    record { on = until.on; each = until.each; none = until.none }

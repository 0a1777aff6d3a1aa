use Rattle.std.proofs.Common.{◌-◌, ◌∙◌, ap, cond, None, sym}
use Rattle.std.specs.Prelude.{slice_get}
use Rattle.memory_map.specs.Range.{Range, code_at}
use Rattle.statement_lang.proofs.Indexing.{code_off, code_placed, found}
use Rattle.statement_lang.proofs.mapped.Mapped.code_at.Goals as goal

pub returns-in-Some : goal.returns-in-Some
returns-in-Some c =
    let f = found c.self.inside.held.items c.deref.result.now c.index.result.now c.args.a c.in-Some.p c.deref.ensures.value c.in-Some.ensures.some c.index.ensures in
    c.code.ensures
    ∙ ap (λ (r : Range). cond r.execute (slice_get r.bytes (c.args.a - r.low)) None) f.is
    ∙ sym (code_placed c.self.inside.held.items c.args.a c.in-Some.p c.self.invariant.memory.apart f.placed)
    ∙ ap (λ list. code_at list c.args.a) c.self.view_is

pub returns-in-None : goal.returns-in-None
returns-in-None c =
    sym (ap (λ list. code_at list c.args.a) (sym (c.deref.ensures.value ∙ c.self.view_is)) ∙ code_off c.deref.result.now c.args.a c.in-None.ensures.none)

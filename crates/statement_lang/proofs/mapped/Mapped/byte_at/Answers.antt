use Rattle.std.proofs.Common.{◌-◌, ◌∙◌, ap, sym}
use Rattle.std.specs.Prelude.{slice_get}
use Rattle.memory_map.specs.Range.{Range, byte_at}
use Rattle.statement_lang.proofs.Indexing.{byte_off, byte_placed, found}
use Rattle.statement_lang.proofs.mapped.Mapped.byte_at.Goals as goal

pub returns-in-Some : goal.returns-in-Some
returns-in-Some c =
    let f = found c.self.inside.held.items c.deref.result.now c.index.result.now c.args.a c.in-Some.p c.deref.ensures.value c.in-Some.ensures.some c.index.ensures in
    c.byte.ensures
    ∙ ap (λ (r : Range). slice_get r.bytes (c.args.a - r.low)) f.is
    ∙ sym (byte_placed c.self.inside.held.items c.args.a c.in-Some.p c.self.invariant.memory.apart f.placed)
    ∙ ap (λ list. byte_at list c.args.a) c.self.view_is

pub returns-in-None : goal.returns-in-None
returns-in-None c =
    sym (ap (λ list. byte_at list c.args.a) (sym (c.deref.ensures.value ∙ c.self.view_is)) ∙ byte_off c.deref.result.now c.args.a c.in-None.ensures.none)

use Rattle.std.proofs.Common.{◌≡◌, ◌∙◌, List, ap, map, set, sym, subst}
use Rattle.memory_map.specs.Range.{Range}
use Rattle.x86_semantics.specs.Memory.{put_byte}
use Rattle.x86_semantics.proofs.Storing.{puts-mapping}
use Rattle.statement_lang.specs.Indexed.{IsIndexed}
use Rattle.statement_lang.proofs.Indexing.{found, map_off, map_placed, put-off, still_indexed}
use Rattle.statement_lang.proofs.mapped.Mapped.put.Goals as goal

pub invariant_of-self : goal.invariant_of-self
invariant_of-self c =
    let held = c.self.inside.held.items in
    let f = found held c.deref.result.now c.index_mut.result.now c.args.a c.in-Some.p c.deref.ensures.value c.in-Some.ensures.some c.index_mut.ensures.value in
    let new : c.put.new.self ≡ put_byte c.args.a c.args.b c.index_mut.result.now = c.put.ensures in
    let all : set held c.in-Some.p c.put.new.self ≡ map (put_byte c.args.a c.args.b) held =
    ap (set held c.in-Some.p) (new ∙ ap (put_byte c.args.a c.args.b) f.is)
    ∙ map_placed (put_byte c.args.a c.args.b) held c.args.a c.in-Some.p (put-off c.args.a c.args.b) c.self.invariant.memory.apart f.placed in
    let P : List Range → Type 0 = λ list. IsIndexed list c.self.inside.order.items in
    subst P (sym all) (still_indexed held (map (put_byte c.args.a c.args.b) held) c.self.inside.order.items (sym (puts-mapping c.args.a c.args.b held)) c.self.invariant)

pub returns-in-Some : goal.returns-in-Some
returns-in-Some c =
    let held = c.self.inside.held.items in
    let f = found held c.deref.result.now c.index_mut.result.now c.args.a c.in-Some.p c.deref.ensures.value c.in-Some.ensures.some c.index_mut.ensures.value in
    let new : c.put.new.self ≡ put_byte c.args.a c.args.b c.index_mut.result.now = c.put.ensures in
    ap (set held c.in-Some.p) (new ∙ ap (put_byte c.args.a c.args.b) f.is)
    ∙ map_placed (put_byte c.args.a c.args.b) held c.args.a c.in-Some.p (put-off c.args.a c.args.b) c.self.invariant.memory.apart f.placed
    ∙ ap (map (put_byte c.args.a c.args.b)) c.self.view_is

pub returns-in-None : goal.returns-in-None
returns-in-None c =
    let same = c.deref.ensures.value ∙ c.self.view_is in
    sym same
    ∙ sym (map_off (put_byte c.args.a c.args.b) c.deref.result.now c.args.a (put-off c.args.a c.args.b) c.in-None.ensures.none)
    ∙ ap (map (put_byte c.args.a c.args.b)) same

use Rattle.std.proofs.Common.{◌∙◌, ◌≡◌, ◌+◌, arith}
use Rattle.memory_map.proofs.Access.{Allows-decided}
use Rattle.memory_map.proofs.segments.Segments.allows.Goals as goal

pub returns-then-end-le4294967296 : goal.returns-then-end-le4294967296
returns-then-end-le4294967296 c =
    let end : c.from.result + c.from-2.result ≡ c.args.a + c.args.n = omega (arith, c.from.ensures, c.from-2.ensures) in
    Allows-decided c.are_allowed.result c.deref.result.now c.args.self.now c.from-then-end-le4294967296.result _ c.args.a c.args.n c.args.perm (c.deref.ensures.value ∙ c.self.view_is) c.from-then-end-le4294967296.ensures end c.if-end-le4294967296.true c.are_allowed.ensures

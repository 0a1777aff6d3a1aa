use Rattle.std.proofs.Common.{ap, arith, length, sym}
use Rattle.file_pieces.proofs.NameLists.{absent, found}
use Rattle.file_pieces.proofs.names.SeenNames.index_of.Goals as goal

pub push-requires-clause-other : goal.push-requires-clause-other
push-requires-clause-other c = absent (λ v. v.items) c.args.self.now c.self.inside.held.keys c.args.name.now c.self.view_is c.in-None.ensures.found

pub returns-in-Some : goal.returns-in-Some
returns-in-Some c =
    let f = found (λ v. v.items) c.args.self.now c.self.inside.held.keys c.args.name.now c.in-Some.index c.self.view_is (sym c.in-Some.ensures.index) (sym c.in-Some.ensures.found) in
    (f.0, f.1, f.2, omega (arith, c.self.invariant.few, ap length c.self.view_is))

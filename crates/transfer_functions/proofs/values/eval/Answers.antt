use Rattle.std.proofs.Common.{sym, subst}
use Rattle.domain_laws.specs.Made.{values_of}
use Rattle.domain_laws.specs.Reached.{named}
use Rattle.partitioned_memory.specs.Well.{HasCount, MayHold}
use Rattle.transfer_functions.proofs.Holds.{eval-counted, eval-holds}
use Rattle.transfer_functions.proofs.values.eval.Goals as goal

pub returns-clause-holds : goal.returns-clause-holds
returns-clause-holds g c =
    let d = values_of g.D.Domain g.D.PartialEq.eq in
    let met = g.met.D.Domain g.world.𝓛 g.world.𝓜 g.world.𝓡 ((λ s x. x), (λ x. x), (λ x. x), λ x. x) in
    λ blocks v u h k. subst (λ (x : g.row.D.Denot). MayHold d blocks c.args.w x) (sym c.eval.ensures) (eval-holds d met.lawful blocks c.args.op v u c.args.w c.args.a c.args.b c.args.align h k)

pub returns-clause-counted : goal.returns-clause-counted
returns-clause-counted g c =
    let d = values_of g.D.Domain g.D.PartialEq.eq in
    let met = g.met.D.Domain g.world.𝓛 g.world.𝓜 g.world.𝓡 ((λ s x. x), (λ x. x), (λ x. x), λ x. x) in
    λ blocks h k. subst (λ (x : g.row.D.Denot). HasCount blocks (named (d.reach x))) (sym c.eval.ensures) (eval-counted d met.lawful blocks c.args.op c.args.w c.args.a c.args.b c.args.align h k)

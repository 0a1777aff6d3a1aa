use Rattle.std.proofs.Common.{◌≡◌, drop, fold}
use Rattle.domain_laws.specs.Made.{values_of}
use Rattle.abstract_state.specs.declared.stored.Stored.TheVariants.{Done}
use Rattle.import_stubs.specs.Stub.{with_write}
use Rattle.import_stubs.proofs.call.Call.write_all.Given as goal

abbrev pub invariant-loop-w : goal.invariant-loop-w
invariant-loop-w g l =
    let step = with_write (values_of g.D.Domain g.D.PartialEq.eq) l.self.image.now l.self.offset l.s in
    (l.p.state.parts.blocks ≡ l.s.parts.blocks) × (fold step (l.done, l.p) (drop l.w-index l.writes) ≡ fold step (Done, l.initial.p) l.writes)

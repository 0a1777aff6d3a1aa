use Rattle.std.proofs.Common.{rules}
use Rattle.partitioned_memory.specs.declared.area.Area.TheVariants.{In}
use Rattle.abstract_state.specs.Notes.{is_in_bytes}
use Rattle.abstract_state.proofs.Keeping.{note-state}
use Rattle.abstract_state.proofs.state.State.drop_note_in.Goals as goal

pub invariant_of-self : goal.invariant_of-self
invariant_of-self g c =
    note-state _ _ _ _ _ _ (is_in_bytes (In c.args.region) c.args.low c.args.end) (search rules) c.self.invariant

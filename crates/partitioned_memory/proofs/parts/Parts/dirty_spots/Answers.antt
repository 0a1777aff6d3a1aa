use Rattle.std.proofs.Common.{ap, ◌∙◌, map}
use Rattle.partitioned_memory.specs.Held.{PartsHeld, pair_of_dirty}
use Rattle.partitioned_memory.proofs.DirtySpots.{ranges-back}
use Rattle.partitioned_memory.proofs.parts.Parts.dirty_spots.Goals as goal

pub returns : goal.returns
returns g c = ranges-back c.self.inside.dirty ∙ ap (λ (h : PartsHeld g.row.D.Denot). map pair_of_dirty h.dirty) c.self.view_is

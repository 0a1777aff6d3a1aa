use Rattle.std.proofs.Common.{ap, ◌∙◌, map}
use Rattle.partitioned_memory.specs.Held.{PartsHeld, pair_of_fact}
use Rattle.partitioned_memory.proofs.FactSpots.{pairs-back}
use Rattle.partitioned_memory.proofs.parts.Parts.fact_spots.Goals as goal

pub returns : goal.returns
returns g c = pairs-back c.self.inside.facts ∙ ap (λ (h : PartsHeld g.row.D.Denot). map pair_of_fact h.facts) c.self.view_is

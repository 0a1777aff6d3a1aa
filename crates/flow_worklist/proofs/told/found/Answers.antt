-- What is found by its spot is what is found along the facts.
use Rattle.std.proofs.Common.{◌≡◌, map, sym, ◌∙◌, ap}
use Rattle.partitioned_memory.specs.Held.{PartsHeld, fact_at, found, pair_of_fact, value_of_width}
use Rattle.partitioned_memory.proofs.PutSpots.{found-at}
use Rattle.flow_worklist.proofs.Telling.{facts-back}
use Rattle.flow_worklist.proofs.told.found.Goals as goal

pub returns : goal.returns
returns g c =
    let facts = c.args.s.now.parts.facts in
    let pairs = c.fact_spots.result.now in
    let spot = c.args.spot in
    let same : pairs ≡ map pair_of_fact facts = c.fact_spots.ensures ∙ ap (λ (h : PartsHeld g.row.D.Denot). map pair_of_fact h.facts) c.parts.ensures in
    c.value_of_width.ensures ∙ ap (value_of_width c.args.w) c.get.ensures.value
    ∙ sym (found-at spot.area spot.low c.args.w pairs c.get.ensures.ascend)
    ∙ ap (found spot.area spot.low c.args.w) (ap (map fact_at) same ∙ facts-back facts)

use Rattle.std.proofs.Common.{◌≡◌, rules, sym, ◌∙◌}
use Rattle.domain_laws.specs.Made.{values_of}
use Rattle.partitioned_memory.specs.Building.{are_well}
use Rattle.partitioned_memory.specs.Held.{PartsHeld}
use Rattle.partitioned_memory.proofs.BuiltParts.{well-of}
use Rattle.partitioned_memory.proofs.building.are_well.Goals as goal

pub returns-then-are_sound_facts-clause-well : goal.returns-then-are_sound_facts-clause-well
unfolding are_well
returns-then-are_sound_facts-clause-well g c t =
    let d = values_of g.D.Domain g.D.PartialEq.eq in
    let h : PartsHeld g.row.D.Denot = record { facts = c.args.facts.now; dirty = c.args.dirty.now; blocks = c.args.blocks.now } in
    let value : c.are_sound_dirty.result ≡ are_well d h = search rules in
    well-of d h (sym value ∙ t)

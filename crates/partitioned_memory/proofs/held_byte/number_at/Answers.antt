use Rattle.std.proofs.Common.{◌≡◌, ap, ◌∙◌, not, pos, rules}
use Rattle.std.specs.Prelude.{is_some, option_map}
use Rattle.domain_laws.specs.Made.{values_of}
use Rattle.partitioned_memory.specs.declared.area.Area.TheVariants.{Image}
use Rattle.partitioned_memory.specs.Areas.{interval_at}
use Rattle.partitioned_memory.specs.Held.{fact_at}
use Rattle.partitioned_memory.specs.Leaves.{unless}
use Rattle.partitioned_memory.proofs.ByteSpots.{number-found, parted-byte}
use Rattle.partitioned_memory.proofs.held_byte.number_at.Goals as goal

pub first_in-requires : goal.first_in-requires
first_in-requires g c =
    let own : c.at.result ≡ interval_at Image c.args.o (pos 1) = search rules in
    parted-byte c.at.result c.args.o c.args.facts.now own c.requires

pub returns : goal.returns
returns g c =
    let d = values_of g.D.Domain g.D.PartialEq.eq in
    let own : c.at.result ≡ interval_at Image c.args.o (pos 1) = search rules in
    c.if_number.ensures
    ∙ ap (λ r. option_map fact_at (unless (λ p. not (is_some (d.number_of p.1.value))) r)) c.first_in.ensures
    ∙ number-found d c.at.result c.args.o c.args.facts.now own c.requires

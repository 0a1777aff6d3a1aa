use Rattle.domain_laws.specs.Made.{values_of}
use Rattle.partitioned_memory.proofs.FactsKept.{beside-keeps, exact-keeps, inside-keeps}
use Rattle.partitioned_memory.proofs.CallsKept.{covers-describes, forget-keeps, read-stands}
use Rattle.partitioned_memory.proofs.BlockKept.{block-keeps}
use Rattle.partitioned_memory.proofs.KnownBytes.{known-byte_stands}
use Rattle.partitioned_memory.proofs.laws.calls_are_right.Goals as goal

pub returns : goal.returns
returns g c =
    let d = values_of g.D.Domain g.D.PartialEq.eq in
    let met = g.met.D.Domain g.world.𝓛 g.world.𝓜 g.world.𝓡 ((λ s x. x), (λ x. x), (λ x. x), λ x. x) in
    let laws = met.lawful in
    record {
      read = read-stands d laws;
      known_byte = λ ranges unset p b h a n valid fits less x e. known-byte_stands d laws p valid b fits ranges unset h a n less x e;
      write_exact = exact-keeps d;
      write_inside = inside-keeps d;
      forget_below = forget-keeps d;
      add_block = block-keeps d laws;
      beside = beside-keeps d;
      covers = covers-describes d laws;
    }

use Rattle.std.proofs.Common.{arith, sym}
use Rattle.elf32_reader.proofs.Lookups.{length-bytes_at}
use Rattle.elf32_reader.proofs.lookup.Lookup.symbol_in.Goals as goal

pub symbol_of-requires : goal.symbol_of-requires
symbol_of-requires c = omega (arith, length-bytes_at _ _ 16 c.in-Some.bytes.now (λ e. omega (arith, e)) (sym c.in-Some.ensures))

use Rattle.std.proofs.Common.{◌∙◌, map}
use Rattle.memory_map.specs.Map.{range_of}
use Rattle.elf32_reader.specs.Symbols.{Space}
use Rattle.elf32_reader.specs.Dynamic.{tables_fault}
use Rattle.elf32_reader.proofs.Kept.{kept_parts}
use Rattle.elf32_reader.proofs.reader.lay_out.Goals as goal

pub invariant_of-result : goal.invariant_of-result
invariant_of-result c =
    let space : Space = record { ranges = map range_of c.args.mapped; bias = c.bias_of.result; tables = c.args.given } in
    let kept = kept_parts space (tables_fault (map range_of c.args.mapped) c.bias_of.result c.args.given) c.in-Ok.walk c.from_vec.result c.in_ok-names.names c.in-Ok.ensures (c.from_vec.ensures ∙ c.into_parts-relocs.ensures.relocs) (c.in_ok-names.ensures ∙ c.into_parts-relocs.ensures.names) in
    record { inside = kept.inside; named = kept.named }

use Rattle.std.proofs.Common.{◌∙◌, ap, map, get_or, false}
use Rattle.memory_map.specs.Map.{range_of}
use Rattle.elf32_reader.specs.declared.reloc.ElfReloc.{ElfReloc}
use Rattle.elf32_reader.specs.declared.reloc.RelocSymbol.TheVariants.{Value}
use Rattle.image_loader.specs.Binding.{with_reloc}
use Rattle.image_loader.proofs.Binds.{relocated-none, relocated-more}
use Rattle.image_loader.proofs.binding.relocate.Goals as goal

pub loop-reloc-init : goal.loop-reloc-init
loop-reloc-init c = relocated-none c.args.stubs.now c.args.names.now (map range_of c.args.segments.now)

pub loop-reloc-preserved : goal.loop-reloc-preserved
loop-reloc-preserved c =
    let relocs = c.args.relocs.now in
    let i = c.loop-reloc.reloc-index in
    let d : ElfReloc = record { at = 0; size = 0; adds = false; plus = 0; symbol = Value 0 } in
    let reloc = get_or relocs i d in
    relocated-more c.args.stubs.now c.args.names.now (map range_of c.args.segments.now) (map range_of c.apply.new.segments) relocs i d c.loop-reloc-test.true
    (c.apply.ensures ∙ ap (λ rs. with_reloc c.args.stubs.now c.args.names.now rs reloc) c.loop-reloc.invariant)

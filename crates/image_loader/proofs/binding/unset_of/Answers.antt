use Rattle.std.proofs.Common.{◌∙◌, ◌++◌, ap, get_or, false}
use Rattle.std.specs.Prelude.{option_to_list}
use Rattle.elf32_reader.specs.declared.reloc.ElfReloc.{ElfReloc}
use Rattle.elf32_reader.specs.declared.reloc.RelocSymbol.TheVariants.{Value}
use Rattle.image_loader.specs.Binding.{unset_by}
use Rattle.image_loader.proofs.Binds.{unset-more}
use Rattle.image_loader.proofs.binding.unset_of.Goals as goal

pub loop-reloc-preserved : goal.loop-reloc-preserved
loop-reloc-preserved c =
    let relocs = c.args.relocs.now in
    let i = c.loop-reloc.reloc-index in
    let d : ElfReloc = record { at = 0; size = 0; adds = false; plus = 0; symbol = Value 0 } in
    unset-more relocs c.push_unset.new.held.items i d c.loop-reloc-test.true
    (c.in_ok-push_unset.ensures ∙ ap (λ l. l ++ option_to_list (unset_by (get_or relocs i d))) c.loop-reloc.invariant)

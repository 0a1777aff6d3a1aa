use Rattle.std.proofs.Common.{◌∙◌, ap, get_or, List, Bool, false}
use Rattle.std.proofs.lemmas.List.{with_items_is}
use Rattle.std.proofs.lemmas.List.Sums.{AllPass-from_list_all}
use Rattle.elf32_reader.specs.Relocations.{has_name_below}
use Rattle.elf32_reader.specs.declared.reloc.ElfReloc.{ElfReloc}
use Rattle.elf32_reader.specs.declared.reloc.RelocSymbol.TheVariants.{Value}
use Rattle.image_loader.specs.Strong.{marked}
use Rattle.image_loader.proofs.Marks.{strong-more}
use Rattle.image_loader.proofs.binding.strong_names.Goals as goal

pub loop-reloc-preserved : goal.loop-reloc-preserved
loop-reloc-preserved c =
    let relocs = c.args.relocs.now in
    let i = c.loop-reloc.reloc-index in
    let d : ElfReloc = record { at = 0; size = 0; adds = false; plus = 0; symbol = Value 0 } in
    let reloc = get_or relocs i d in
    let strong = c.loop-reloc.strong in
    strong-more relocs c.args.count i d strong.items _ c.loop-reloc.invariant c.loop-reloc-test.true
    (AllPass-from_list_all (has_name_below c.args.count) relocs c.requires i d c.loop-reloc-test.true)
    (with_items_is strong c.mark_import.new.strong (c.mark_import.auto.strong ∙ c.deref_mut.ensures.len)
    ∙ c.mark_import.ensures
    ∙ ap (λ (l : List Bool). marked l reloc.symbol) c.deref_mut.ensures.value)

use Rattle.std.proofs.Common.{◌∙◌, ◌≡◌, ◌≤◌, true, ap, sym, subst, map, length, List, ℕ, arith, refl}
use Rattle.std.specs.Prelude.{filter_map}
use Rattle.std.specs.List.{list_all}
use Rattle.memory_map.specs.Alignment.{IsAlignment}
use Rattle.memory_map.specs.Image.{is_mapped}
use Rattle.memory_map.specs.Map.{range_of}
use Rattle.memory_map.specs.Name.{MOST_NAMES}
use Rattle.memory_map.specs.Range.{Range}
use Rattle.memory_map.specs.declared.import_name.ImportName.{ImportName}
use Rattle.memory_map.specs.declared.span.Span.{Span}
use Rattle.elf32_reader.specs.declared.reloc.ElfReloc.{ElfReloc}
use Rattle.image_loader.specs.Binding.{relocated, unset_by}
use Rattle.image_loader.proofs.Binds.{aligned, length-names_from, unset-mapped}
use Rattle.image_loader.proofs.binding.bind_elf.Goals as goal

pub whole-requires : goal.whole-requires
whole-requires c =
    let file = c.args.file in
    let stubs = c.args.stubs.now in
    let ranges = map range_of file.segments in
    let held : map range_of c.relocate.new.segments ≡ relocated stubs file.names ranges file.relocs =
    c.relocate.ensures
    ∙ ap (λ (l : List (List ℕ)). relocated stubs l ranges c.as_slice.result.now) c.as_slice-2.ensures.names
    ∙ ap (λ (l : List ElfReloc). relocated stubs file.names ranges l) c.as_slice.ensures in
    let unset : c.in_ok-unset.unset ≡ filter_map unset_by file.relocs = c.in_ok-unset.ensures ∙ ap (λ (l : List ElfReloc). filter_map unset_by l) c.as_slice-3.ensures in
    let OfRanges : List Range → Type 0 = λ rs. list_all (is_mapped rs) c.in_ok-unset.unset ≡ true in
    let OfUnset : List Span → Type 0 = λ l. list_all (is_mapped (relocated stubs file.names ranges file.relocs)) l ≡ true in
    let Few : List ImportName → Type 0 = λ l. length l ≤ MOST_NAMES in
    let Align : ℕ → Type 0 = λ n. IsAlignment n in
    record {
      map = c.as_slice-map.ensures.map;
      unset = subst OfRanges (sym held) (subst OfUnset (sym unset) (unset-mapped stubs file.names ranges file.relocs file.relocs file.inside));
      names = subst Few (sym c.in_ok-names.ensures) (omega (arith, length-names_from stubs c.as_slice-4.result.now 0 file.names, c.as_slice-2.ensures.few));
      align = subst Align (sym c.unwrap_or-align.ensures) (aligned c.align.result 16 refl c.align.ensures.kept);
      entry = omega arith;
    }

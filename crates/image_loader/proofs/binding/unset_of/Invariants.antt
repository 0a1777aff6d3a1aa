use Rattle.std.proofs.Common.{◌≡◌, take}
use Rattle.std.specs.Prelude.{filter_map}
use Rattle.image_loader.specs.Binding.{unset_by}
use Rattle.image_loader.proofs.binding.unset_of.Given as goal

abbrev pub invariant-loop-reloc : goal.invariant-loop-reloc
invariant-loop-reloc l = l.held.items ≡ filter_map unset_by (take l.reloc-index l.relocs)

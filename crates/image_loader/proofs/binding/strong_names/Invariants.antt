use Rattle.std.proofs.Common.{take}
use Rattle.image_loader.specs.Strong.{AreStrong}
use Rattle.image_loader.proofs.binding.strong_names.Given as goal

abbrev pub invariant-loop-reloc : goal.invariant-loop-reloc
invariant-loop-reloc l = AreStrong (take l.reloc-index l.relocs) l.count l.strong.items

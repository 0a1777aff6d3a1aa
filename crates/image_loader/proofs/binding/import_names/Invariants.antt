use Rattle.std.proofs.Common.{◌≡◌, ◌+◌, ◌++◌, length}
use Rattle.std.specs.Vec.Iter.{into_iter_items}
use Rattle.image_loader.specs.Binding.{names_from}
use Rattle.image_loader.proofs.binding.import_names.Given as goal

abbrev pub invariant-loop-name : goal.invariant-loop-name
invariant-loop-name l = (l.list.items ++ names_from l.stubs l.relocs (length l.list.items) (into_iter_items l.name-iterator) ≡ names_from l.stubs l.relocs 0 l.fn.names) × (length l.list.items + length (into_iter_items l.name-iterator) ≡ length l.fn.names)

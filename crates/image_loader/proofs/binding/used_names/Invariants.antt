use Rattle.std.proofs.Common.{◌≡◌, ◌++◌, map}
use Rattle.std.specs.Vec.Iter.{into_iter_items}
use Rattle.image_loader.specs.Binding.{used_name}
use Rattle.image_loader.proofs.binding.used_names.Given as goal

abbrev pub invariant-loop-name : goal.invariant-loop-name
invariant-loop-name l = l.list.items ++ map used_name (into_iter_items l.name-iterator) ≡ map used_name l.fn.names

use Rattle.std.proofs.Common.{◌≡◌, ◌++◌, map, true}
use Rattle.std.specs.List.{list_all}
use Rattle.memory_map.specs.Name.{is_name}
use Rattle.file_pieces.proofs.names.names_of.Given as goal

abbrev pub invariant-loop-key : goal.invariant-loop-key
invariant-loop-key l = (l.names.items ++ map (λ v. v.items) l.key-iterator ≡ map (λ v. v.items) l.fn.keys.keys) × (list_all is_name (map (λ v. v.items) l.key-iterator) ≡ true)

-- How a list of pairs lies in leaves, which several lists share.
use Rattle.std.specs.Prelude.{◌<◌, ◌≤◌, Bool, false, not, List, [], ◌∷◌, map, length, Option, Some, None, if◌then◌else◌}
use Rattle.std.specs.List.{flat_map}
use Rattle.std.specs.Arc.{arc_value}
use Rattle.std.specs.declared.sync.Arc.{Arc}
use Rattle.partitioned_memory.specs.declared.fact.Spot.{Spot}
use Rattle.partitioned_memory.specs.declared.leaf.Leaf.{Leaf}
use Rattle.partitioned_memory.specs.declared.stretch.Edge.{Edge}
use Rattle.partitioned_memory.specs.declared.stretch.Edge.TheVariants.{Start, End}
use Rattle.partitioned_memory.specs.Lists.{Ascends, Every}
use Rattle.partitioned_memory.specs.Pairs.{pair_before}

-- the pairs of a leaf that is shared
abbrev pub pairs_in : {V Z : Type 0} → Arc (Leaf V) Z → List (Spot × V)
pairs_in leaf = (arc_value leaf).pairs.items

-- the pairs of each leaf
abbrev pub pieces : {V Z : Type 0} → List (Arc (Leaf V) Z) → List (List (Spot × V))
pieces leaves = map pairs_in leaves

-- lists as one
abbrev pub flattened : {X : Type 0} → List (List X) → List X
flattened xss = flat_map (λ xs. xs) xss

-- a leaf has 1 to 64 pairs
pub record IsLeaf {X : Type 0} (xs : List X) : Type 0 where
  pub filled : 0 < length xs
  pub bounded : length xs ≤ 64

-- the pairs ascend by spot through all leaves
pub record AreLeaves {V : Type 0} (leaves : List (List (Spot × V))) : Type 0 where
  pub ascend : Ascends pair_before (flattened leaves)
  pub each : Every IsLeaf leaves

-- the last element passes a test
abbrev pub last_passes : {X : Type 0} → (X → Bool) → List X → Bool
last_passes t [] = false
last_passes t (x ∷ []) = t x
last_passes t (x ∷ y ∷ ys) = last_passes t (y ∷ ys)

-- an element lies before an edge of a stretch: before the stretch, or not after it
abbrev pub before_edge : {X : Type 0} → Edge → (X → Bool) → (X → Bool) → X → Bool
before_edge Start before after x = before x
before_edge End before after x = not (after x)

-- an element, unless it passes a test
abbrev pub unless : {X : Type 0} → (X → Bool) → Option X → Option X
unless t None = None
unless t (Some x) = if t x then None else Some x

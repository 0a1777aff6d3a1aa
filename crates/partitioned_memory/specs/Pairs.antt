-- Lists of pairs of a spot and a value, ascending by spot, each spot once.
use Rattle.std.specs.Prelude.{Bool, not, ◌&&◌, List, filter, find, Option}
use Rattle.std.specs.Option.{option_map}
use Rattle.std.specs.Ordering.{is_lt}
use Rattle.std.specs.declared.cmp.Ordering.{Ordering}
use Rattle.partitioned_memory.specs.declared.fact.Spot.{Spot}
use Rattle.partitioned_memory.specs.contracts.fact.SpotOrd.TheImpl as order
use Rattle.partitioned_memory.specs.contracts.fact.SpotPartialEq.TheImpl as equality
use Rattle.partitioned_memory.specs.Lists.{placed, Falls}

-- the order of spots, as `<` has it: by area, and then by offset
unfoldable pub spot_cmp : Spot → Spot → Ordering
spot_cmp a b = order.ghosts.cmp a b

-- the equality of spots, as `==` tests it
unfoldable pub same_spot : Spot → Spot → Bool
same_spot a b = equality.ghosts.eq a b

abbrev pub spot_before : Spot → Spot → Bool
spot_before a b = is_lt (spot_cmp a b)

-- pairs in the order of their spots, each spot once
abbrev pub pair_before : {V : Type 0} → Spot × V → Spot × V → Bool
pair_before p q = spot_before p.0 q.0

-- the value of the pair of a spot
abbrev pub value_at : {V : Type 0} → Spot → List (Spot × V) → Option V
value_at k pairs = option_map (λ p. p.1) (find (λ p. same_spot p.0 k) pairs)

-- the pairs but for that of a spot
abbrev pub pairs_without : {V : Type 0} → Spot → List (Spot × V) → List (Spot × V)
pairs_without k pairs = filter (λ p. not (same_spot p.0 k)) pairs

-- the pairs with one more in its place, instead of any of its spot
abbrev pub pairs_with : {V : Type 0} → Spot → V → List (Spot × V) → List (Spot × V)
pairs_with k v pairs = placed pair_before (k, v) (pairs_without k pairs)

-- along the pairs come first those before a stretch, then those in it, and then those after it
pub record IsParted {V : Type 0} (before after : Spot × V → Bool) (pairs : List (Spot × V)) : Type 0 where
  pub start : Falls before pairs
  pub end : Falls (λ p. not (after p)) pairs

-- the first pair in a stretch
abbrev pub first_in : {V : Type 0} → (Spot × V → Bool) → (Spot × V → Bool) → List (Spot × V) → Option (Spot × V)
first_in before after pairs = find (λ p. not (before p) && not (after p)) pairs

-- Runs of a machine, over any kind of state M.
use Rattle.std.specs.Prelude.{ℕ, List, [], ◌∷◌, Contains, ⊤}

-- a machine: where a state stands, which states may follow it, and the edge that a step is
pub record Machine (M E : Type 0) : Type 1 where
  pub place : M → ℕ
  pub Steps : M → M → Type 0
  pub edge : M → M → E

module _ {M E : Type 0} (machine : Machine M E) where
  -- each state follows the one before it
  abbrev pub IsRun : M → List M → Type 0
  IsRun m [] = ⊤
  IsRun m (next ∷ rest) = machine.Steps m next × IsRun next rest

  -- until the run first stands at an open location, each of its states is known, and each of its steps is an edge
  abbrev pub Follows : (M → Type 0) → (ℕ → Type 0) → List E → M → List M → Type 0
  Follows IsKnown IsOpen edges m [] = IsKnown m
  Follows IsKnown IsOpen edges m (next ∷ rest) =
      IsKnown m × ((IsOpen (machine.place m) → ⊥) → Contains edges (machine.edge m next) × Follows IsKnown IsOpen edges next rest)

-- An analysis: what an exploration asks, over any kind of state S, edge E, cause C and written range W.
use Rattle.std.specs.Prelude.{ℕ, Bool, List}

-- what one row leads to: the next pairs of a location and a state in their order, the causes that leave its location open, and the ranges of the
-- image that it may write
pub record Expansion (S C W : Type 0) : Type 0 where
  pub next : List (ℕ × S)
  pub causes : List C
  pub writes : List W

pub record Analysis (S E C W : Type 0) : Type 0 where
  pub entry : ℕ
  pub start : S
  pub expand : ℕ → S → Expansion S C W
  -- the edge from a row's location and state to a target
  pub edge : ℕ → S → ℕ → E
  -- whether the first state stands for all that the second one stands for
  pub covers : S → S → Bool
  -- a state made to stand for more, by the states of the earlier rows at its location
  pub widen : List S → S → S
  -- the cause of a row that was not expanded
  pub unexpanded : C

-- The laws of a domain of abstract values.
use Rattle.std.specs.Prelude.{ℕ, ◌^◌, ◌≡◌, ◌≤◌, ◌<◌, ℤ, pos, ◌-ℤ◌, ◌≤ℤ◌, Bool, true, Option, Some, None, ◌⊎◌}
use Rattle.bit_words.specs.declared.op.Op.{Op}
use Rattle.bit_words.specs.declared.width.Width.{Width}
use Rattle.bit_words.specs.Width.{bits_of}
use Rattle.bit_words.specs.Operators.{apply_op}
use Rattle.address_regions.specs.declared.region.Region.{Region}
use Rattle.address_regions.specs.Extents.{low_of, high_of}
use Rattle.address_regions.specs.Places.{Places, HasBase, place_at, IsValid, SameWindows, KeepsBases}
use Rattle.domain_laws.specs.declared.reach.Reach.{Reach}
use Rattle.domain_laws.specs.Reached.{IsReached, IsProper, named}

-- the functions of a domain, and for which numbers a value stands, by the places of a run
pub record Values (D : Type 0) : Type 1 where
  pub stands : D → Places → ℕ → Type 0
  pub number : ℕ → D
  pub place : Region → ℤ → D
  pub inside : Region → D
  pub any : D
  pub eval : Op → Width → D → D → ℕ → D
  pub number_of : D → Option ℕ
  pub reach : D → Reach
  pub up_to : D → ℕ → D
  pub leq : D → D → Bool
  pub rank : D → ℕ
  pub raise : D → D
  pub eq : D → D → Bool

-- n is a value of the operator at operands of 32 bits
pub record IsValueOf (op : Op) (w : Width) (n : ℕ) : Type 0 where
  pub first : ℕ
  pub second : ℕ
  pub first_fits : first < 2 ^ 32
  pub second_fits : second < 2 ^ 32
  pub is : n ≡ apply_op op w first second

pub record IsLawful {D : Type 0} (d : Values D) : Type 0 where
  -- what the four makers stand for
  pub number_stands : (n : ℕ) (p : Places) → IsValid p → d.stands (d.number n) p n
  pub place_stands : (r : Region) (o : ℤ) (b : ℕ) (p : Places) → IsValid p → HasBase p r b → d.stands (d.place r o) p (place_at b o)
  pub inside_stands : (r : Region) (o : ℤ) (b : ℕ) (p : Places) → IsValid p → HasBase p r b → low_of r ≤ℤ o → o ≤ℤ (high_of r -ℤ pos 4) → d.stands (d.inside r) p (place_at b o)
  pub any_stands : (p : Places) (x : ℕ) → IsValid p → d.stands d.any p x
  -- an operator at values stands for the operator at their numbers, which fit the width
  pub eval_stands : (op : Op) (w : Width) (a b : D) (p : Places) (x y : ℕ) → IsValid p → x < 2 ^ bits_of w → y < 2 ^ bits_of w → d.stands a p x → d.stands b p y → d.stands (d.eval op w a b p.align) p (apply_op op w x y)
  -- a number that is told is the only one
  pub number_of_stands : (v : D) (n : ℕ) (p : Places) → IsValid p → d.number_of v ≡ Some n → d.stands v p n
  pub number_of_alone : (v : D) (n : ℕ) (p : Places) (x : ℕ) → IsValid p → d.number_of v ≡ Some n → d.stands v p x → x ≡ n
  -- every number lies in the reach, whose bounds are in order
  pub reach_holds : (v : D) (p : Places) (x : ℕ) → IsValid p → d.stands v p x → IsReached (d.reach v) p x
  pub reach_proper : (v : D) → IsProper (d.reach v)
  -- what is at most c is kept
  pub up_to_stands : (v : D) (c : ℕ) (p : Places) (x : ℕ) → IsValid p → x ≤ c → d.stands v p x → d.stands (d.up_to v c) p x
  -- the order
  pub leq_stands : (a b : D) (p : Places) (x : ℕ) → IsValid p → d.leq a b ≡ true → d.stands a p x → d.stands b p x
  pub leq_refl : (a : D) → d.leq a a ≡ true
  pub leq_trans : (a b c : D) → d.leq a b ≡ true → d.leq b c ≡ true → d.leq a c ≡ true
  -- `==` is identity
  pub eq_is : (a b : D) → d.eq a b ≡ true → a ≡ b
  pub eq_refl : (a : D) → d.eq a a ≡ true
  -- a value of rank 0 stands for every number, and any other can be raised
  pub rank_zero : (v : D) (p : Places) (x : ℕ) → IsValid p → d.rank v ≡ 0 → d.stands v p x
  pub raise_leq : (v : D) → 0 < d.rank v → d.leq v (d.raise v) ≡ true
  pub raise_rank : (v : D) → 0 < d.rank v → d.rank (d.raise v) < d.rank v
  -- a value stands for the same numbers by other places that have the same windows, and the bases of the block region that it names
  pub moves : (v : D) (p q : Places) (x : ℕ) → IsValid p → IsValid q → SameWindows p q → KeepsBases (named (d.reach v)) p q → d.stands v p x → d.stands v q x
  -- which block region a value names
  pub number_names : (n : ℕ) → named (d.reach (d.number n)) ≡ None
  pub place_names : (r : Region) (o : ℤ) (s : Region) → named (d.reach (d.place r o)) ≡ Some s → s ≡ r
  pub inside_names : (r s : Region) → named (d.reach (d.inside r)) ≡ Some s → s ≡ r
  pub any_names : named (d.reach d.any) ≡ None
  pub eval_names : (op : Op) (w : Width) (a b : D) (align : ℕ) (s : Region) → named (d.reach (d.eval op w a b align)) ≡ Some s → (named (d.reach a) ≡ Some s) ⊎ (named (d.reach b) ≡ Some s)
  pub up_to_names : (v : D) (c : ℕ) (s : Region) → named (d.reach (d.up_to v c)) ≡ Some s → named (d.reach v) ≡ Some s
  pub raise_names : (v : D) (s : Region) → named (d.reach (d.raise v)) ≡ Some s → named (d.reach v) ≡ Some s
  -- where a number is told of a result
  pub eval_number : (op : Op) (w : Width) (a b : D) (align n : ℕ) → d.number_of (d.eval op w a b align) ≡ Some n → IsValueOf op w n
  pub up_to_number : (v : D) (c n : ℕ) → d.number_of (d.up_to v c) ≡ Some n → (d.number_of v ≡ Some n) ⊎ (n ≤ c)
  pub raise_number : (v : D) → d.number_of (d.raise v) ≡ None

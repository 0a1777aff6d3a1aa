-- How many values of each rank were seen at each holder.
use Rattle.std.specs.Prelude.{ℕ, ◌≡◌, ◌==◌, ◌&&◌, Bool, List, count_by, unwrap_or}
use Rattle.indexmap.specs.IndexMap.{IndexMap, get_by}
use Rattle.domain_laws.specs.Laws.{Values}
use Rattle.abstract_state.specs.declared.seen.Holder.{Holder}
use Rattle.abstract_state.specs.Widening.{is_rival, same_holder}

-- the key of the count of a rank at a holder
abbrev pub is_count_of : Holder → ℕ → Holder × ℕ → Bool
is_count_of h rank key = same_holder h key.0 && rank == key.1

-- each is how many of these pairs have it, where none that is kept stands for 0
pub record AreCounted {D S : Type 0} (d : Values D) (pairs : List (Holder × D)) (counts : IndexMap (Holder × ℕ) ℕ S) : Type 0 where
  pub count : (h : Holder) (rank : ℕ) → unwrap_or (get_by (is_count_of h rank) counts) 0 ≡ count_by (is_rival d h rank) pairs

-- What a row leads to, and how far a path of its instruction has come.
use Rattle.std.specs.Prelude.{ℕ, ◌==◌, ◌&&◌, Bool, List, [], ◌∷◌, ◌++◌, fold, if◌then◌else◌}
use Rattle.std.specs.List.{list_any}
use Rattle.std.specs.Ordering.{nat_cmp}
use Rattle.std.specs.declared.cmp.Ordering.{Ordering}
use Rattle.flow_log.specs.declared.cause.Cause.{Cause}
use Rattle.flow_log.specs.Analysis.{Expansion}
use Rattle.flow_log.specs.Orders.{cause_rank}
use Rattle.flow_log.specs.Ordered.{ordered_set}
use Rattle.abstract_state.specs.State.{Known}

-- a range of the image that is written: its low address, and how many bytes
abbrev pub Written : Type 0
Written = ℕ × ℕ

-- the next pairs of a location and a state, the causes, and the written ranges
abbrev pub Expanded : Type 0 → Type 0
Expanded D = Expansion (Known D) Cause Written

-- a path on its way through an instruction: its state, and what it has written
pub record Path (D : Type 0) : Type 0 where
  pub state : Known D
  pub writes : List Written

abbrev pub starts : {D : Type 0} → Known D → Path D
starts s = record { state = s; writes = [] }

-- ---- the ends of a path

-- no next state
abbrev pub ended : {D : Type 0} → List Written → Expanded D
ended ws = record { next = []; causes = []; writes = ws }

-- a cause, and no next state
abbrev pub stopped : {D : Type 0} → Cause → List Written → Expanded D
stopped c ws = record { next = []; causes = c ∷ []; writes = ws }

-- one next pair
abbrev pub lands : {D : Type 0} → ℕ → Path D → Expanded D
lands a p = record { next = (a, p.state) ∷ []; causes = []; writes = p.writes }

-- ---- paths of one instruction together

abbrev pub cause_cmp : Cause → Cause → Ordering
cause_cmp a b = nat_cmp (cause_rank a) (cause_rank b)

abbrev pub is_written : Written → Written → Bool
is_written w v = v.0 == w.0 && v.1 == w.1

-- a range more, unless it was written
abbrev pub with_written : List Written → Written → List Written
with_written ws w = if list_any (is_written w) ws then ws else ws ++ w ∷ []

-- further ranges, each once
abbrev pub with_writes : List Written → List Written → List Written
with_writes more ws = fold with_written ws more

-- the next pairs of the first and then of the second, each cause once in the order of causes, and each range once as it is first written
abbrev pub joined : {D : Type 0} → Expanded D → Expanded D → Expanded D
joined x y = record {
  next = x.next ++ y.next;
  causes = ordered_set cause_cmp (x.causes ++ y.causes);
  writes = with_writes y.writes x.writes;
}

-- No run of a machine leaves closed rows of a sound analysis before it first stands at an open location.
use Rattle.std.proofs.Common.{◌≡◌, ℕ, ◌⊎◌, true, List, [], ◌∷◌, sym, subst, inl, inr}
use Rattle.std.specs.Prelude.{Contains, All}
use Rattle.std.proofs.lemmas.List.Elements.{All-contains}
use Rattle.flow_log.specs.Analysis.{Analysis}
use Rattle.flow_log.specs.Run.{Machine, IsRun, Follows}
use Rattle.flow_log.specs.Sound.{Sound, IsFound, StandsFor, IsRepresented, IsDone, IsClosed, IsKnown}

module _ {S E C W M : Type 0} (a : Analysis S E C W) (machine : Machine M E) (IsWell : S → Type 0) (Describes : S → M → Type 0)
    (sound : Sound a machine IsWell Describes) (rows : List (ℕ × S)) (edges : List E) (Open : ℕ → Type 0)
    (closed : IsClosed a rows edges Open) (well : All (λ row. IsWell row.1) rows) where
  abbrev Known : M → Type 0
  Known m = IsKnown machine Describes rows m

  row_well : (location : ℕ) (state : S) → Contains rows (location, state) → IsWell state
  row_well location state held = All-contains (λ (row : ℕ × S). IsWell row.1) rows (location, state) well held

  -- what stands for a described state describes it too
  described : (t s : S) (m : M) → IsWell t → IsWell s → StandsFor a t s → Describes s m → Describes t m
  described t s m t_well s_well (inl same) d = let P : S → Type 0 = λ z. Describes z m in subst P (sym same) d
  described t s m t_well s_well (inr covers) d = sound.covers t s m t_well s_well covers d

  described_widened : (t s : S) (m : M) → IsWell t → IsWell s → StandsFor a t s ⊎ ((seen : List S) × StandsFor a t (a.widen seen s)) → Describes s m → Describes t m
  described_widened t s m t_well s_well (inl stands) d = described t s m t_well s_well stands d
  described_widened t s m t_well s_well (inr (seen, stands)) d =
      described t (a.widen seen s) m t_well (sound.widen_well seen s s_well) stands (sound.widen seen s m s_well d)

  -- a start is known
  pub start_known : (m : M) → machine.place m ≡ a.entry → Describes a.start m → Known m
  start_known m at d =
      let P : ℕ → Type 0 = λ l. Contains rows (l, closed.first) in
      record {
        state = closed.first;
        in_rows = subst P (sym at) closed.first_in_rows;
        describes = described closed.first a.start m (row_well a.entry closed.first closed.first_in_rows) sound.start_well closed.first_stands d;
      }

  -- one step from a known state at a place that is not open
  record IsStepped (m next : M) : Type 0 where
    edge : Contains edges (machine.edge m next)
    known : IsKnown machine Describes rows next

  step_known : (m next : M) → Known m → (Open (machine.place m) → ⊥) → machine.Steps m next → IsStepped m next
  step_known m next known shut steps =
      let at = machine.place m in
      let s = known.state in
      let s_well : IsWell s = row_well at s known.in_rows in
      let done : IsDone a rows edges at s = closed.done at s known.in_rows shut in
      let found : IsFound a machine Describes s m next = sound.step s m next s_well known.describes done.no_cause steps in
      let there : IsRepresented a rows (machine.place next) found.state = done.has_next (machine.place next, found.state) found.pair in
      let in_edges : E → Type 0 = λ e. Contains edges e in
      record {
        edge = subst in_edges found.edge (done.has_edge (machine.place next, found.state) found.pair);
        known = record {
          state = there.row;
          in_rows = there.in_rows;
          describes = described_widened there.row found.state next (row_well (machine.place next) there.row there.in_rows)
              (sound.next_well at s (machine.place next, found.state) s_well found.pair) there.stands found.describes;
        };
      }

  pub run_follows : (m : M) (states : List M) → Known m → IsRun machine m states → Follows machine Known Open edges m states
  run_follows m [] known run = known
  run_follows m (next ∷ rest) known run = (
    known,
    λ shut. let stepped : IsStepped m next = step_known m next known shut run.0 in
        (stepped.edge, run_follows next rest stepped.known run.1),
  )

-- what is known of each state of a run may be said by less
pub follows_weaker : {M E : Type 0} (machine : Machine M E) (Before After : M → Type 0) (Open : ℕ → Type 0) (edges : List E) → ((m : M) → Before m → After m)
    → (m : M) (states : List M) → Follows machine Before Open edges m states → Follows machine After Open edges m states
follows_weaker machine Before After Open edges less m [] f = less m f
follows_weaker machine Before After Open edges less m (next ∷ rest) f =
    (less m f.0, λ shut. let step = f.1 shut in (step.0, follows_weaker machine Before After Open edges less next rest step.1))

-- The writes of a call keep what is always so of a state.
use Rattle.std.proofs.Common.{◌≡◌, ℕ, ◌+◌, ◌*◌, true, false, cond, List, [], ◌∷◌, Option, Some, None, refl, sym, subst, ℤ, pos, ◌+ℤ◌, fold}
use Rattle.std.specs.Prelude.{◌==◌, ◌||◌, All}
use Rattle.bit_words.specs.declared.width.Width.TheVariants.{B32}
use Rattle.memory_map.specs.Image.{Image}
use Rattle.memory_map.specs.Range.{IsInUserSpace}
use Rattle.address_regions.specs.declared.region.Region.TheVariants.{Stack}
use Rattle.domain_laws.specs.Laws.{IsLawful, Values}
use Rattle.domain_laws.specs.Reached.{named}
use Rattle.partitioned_memory.specs.declared.area.Area.{Area}
use Rattle.partitioned_memory.specs.declared.area.Area.TheVariants.{In}
use Rattle.partitioned_memory.specs.declared.fact.Counted.{Counted}
use Rattle.partitioned_memory.specs.Held.{found, known_byte, known_number, value_read}
use Rattle.partitioned_memory.specs.Well.{HasCount}
use Rattle.partitioned_memory.proofs.Holding.{found-holds}
use Rattle.stub_file.specs.declared.stub.StubWrite.{StubWrite}
use Rattle.flow_log.specs.declared.cause.Cause.TheVariants as causes
use Rattle.abstract_state.specs.declared.stored.Stored.TheVariants.{Done, Faults, Stopped}
use Rattle.abstract_state.specs.Accessing.{StoredPath, any_stored, lies_in_extent, value_at}
use Rattle.abstract_state.specs.Expanding.{Path}
use Rattle.abstract_state.specs.State.{AreSmall, IsWellState, Known}
use Rattle.abstract_state.proofs.BridgeAny.{any-keeps}
use Rattle.abstract_state.proofs.BridgeKeeping.{IsKeptWell, Keeps}
use Rattle.import_stubs.specs.Stub.{amount_known, argument_value, is_null, may_be_null, with_write, word_above, written, written_at}

module _ {D : Type 0} (d : Values D) (l : IsLawful d) (image : Image) where
  -- the block region that a loaded value names has a count
  value-counted : (a : Area) (low : ℤ) (s : Known D) → IsWellState d s → HasCount s.parts.blocks (named (d.reach (value_at d image a low B32 s)))
  value-counted a low s well =
      let known = known_number (known_byte image.segments image.unset s.parts.dirty a) low B32 in
      elim (found a low B32 s.parts.facts) as (λ o. found a low B32 s.parts.facts ≡ o → HasCount s.parts.blocks (named (d.reach (value_read d o known)))) [
        | Some v ↦ λ e. (found-holds d s.parts.blocks a low B32 v s.parts.facts well.parts.facts e).counted
        | None ↦ λ e. elim known as (λ o. HasCount s.parts.blocks (named (d.reach (value_read d None o)))) [
          | Some n ↦ subst (HasCount s.parts.blocks) (sym (l.number_names n)) tt
          | None ↦ subst (HasCount s.parts.blocks) (sym l.any_names) tt
        ]
      ] refl

  pub word-counted : (o : ℤ) (above : ℕ) (s : Known D) → IsWellState d s → HasCount s.parts.blocks (named (d.reach (word_above d image o above s)))
  word-counted o above s well =
      let low = o +ℤ pos above in
      elim (lies_in_extent Stack low (low +ℤ pos 4)) as (λ b. HasCount s.parts.blocks (named (d.reach (cond b (value_at d image (In Stack) low B32 s) d.any)))) [
        | true ↦ value-counted (In Stack) low s well
        | false ↦ subst (HasCount s.parts.blocks) (sym l.any_names) tt
      ]

module _ {D : Type 0} (d : Values D) (l : IsLawful d) (image : Image) (blocks : List Counted) (inside : All IsInUserSpace image.segments) (small : AreSmall blocks) where
  abbrev pub K : Path D → Type 0
  K q = IsKeptWell d image blocks inside small q

  abbrev pub KS : StoredPath D → Type 0
  KS x = Keeps d image blocks inside small x

  written_at-keeps : (v : D) (n : ℕ) (q : Path D) → K q → HasCount blocks (named (d.reach v)) → KS (written_at d image v n q)
  written_at-keeps v n q h counted =
      elim (n == 0 || is_null (d.reach v)) as (λ b. KS (cond b (Done, q) (cond (may_be_null (d.reach v)) (Stopped causes.Store, q) (any_stored d image v n q)))) [
        | true ↦ h
        | false ↦ elim (may_be_null (d.reach v)) as (λ b. KS (cond b (Stopped causes.Store, q) (any_stored d image v n q))) [ true ↦ tt | false ↦ any-keeps d image blocks inside small q v n h counted ]
      ]

  written-keeps : (v : D) (n : Option ℕ) (q : Path D) → K q → HasCount blocks (named (d.reach v)) → KS (written d image v n q)
  written-keeps v (Some n) q h counted = written_at-keeps v n q h counted
  written-keeps v None q h counted = elim (is_null (d.reach v)) as (λ b. KS (cond b (Done, q) (Stopped causes.Store, q))) [ true ↦ h | false ↦ tt ]

  argument-counted : (o : ℤ) (i : ℕ) (s : Known D) → IsWellState d s → s.parts.blocks ≡ blocks → HasCount blocks (named (d.reach (argument_value d image o i s)))
  argument-counted o i s well same = subst (λ (bs : List Counted). HasCount bs (named (d.reach (argument_value d image o i s)))) same (word-counted d l image o (4 + 4 * i) s well)

  pub with_write-keeps : (o : ℤ) (s : Known D) (x : StoredPath D) (w : StubWrite) → IsWellState d s → s.parts.blocks ≡ blocks → KS x → KS (with_write d image o s x w)
  with_write-keeps o s (Done, q) w well same h = written-keeps (argument_value d image o w.arg s) (amount_known d image o w.length s) q h (argument-counted o w.arg s well same)
  with_write-keeps o s (Faults, q) w well same h = tt
  with_write-keeps o s (Stopped c, q) w well same h = tt

  pub writes-keep : (o : ℤ) (s : Known D) (ws : List StubWrite) (x : StoredPath D) → IsWellState d s → s.parts.blocks ≡ blocks → KS x → KS (fold (with_write d image o s) x ws)
  writes-keep o s [] x well same h = h
  writes-keep o s (w ∷ ws) x well same h = writes-keep o s ws (with_write d image o s x w) well same (with_write-keeps o s x w well same h)

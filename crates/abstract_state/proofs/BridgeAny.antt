-- A write of bytes of which nothing is known: it keeps states well, and stands for the machine's.
use Rattle.std.proofs.Common.{◌≡◌, ℕ, ◌+◌, ◌-◌, ◌<◌, ◌≤◌, true, false, cond, List, refl, sym, subst, arith, ℤ, pos, ◌+ℤ◌, ◌-ℤ◌, ◌≤ℤ◌, inl, inr}
use Rattle.std.specs.Prelude.{⊤, All, int_le, is_some, nat_le, nat_lt}
use Rattle.std.proofs.lemmas.Bool.{and_from, and_parts, both_ways, le-leb, leb-true, lt-ltb, ltb-true, or_cases}
use Rattle.std.proofs.lemmas.Int.{ints}
use Rattle.memory_map.specs.declared.span.Span.{Span}
use Rattle.memory_map.specs.declared.registers.Regs.{Regs}
use Rattle.memory_map.specs.Image.{Image}
use Rattle.memory_map.specs.Range.{IsInUserSpace, USER_END, USER_LOW, byte_at, may_write, may_write_any, maps_all}
use Rattle.memory_map.specs.Spans.{is_in_span, runs_of}
use Rattle.memory_map.specs.State.{MachineState, memory}
use Rattle.memory_map.proofs.Mappings.{mapped_inside, written_mapped}
use Rattle.memory_map.proofs.RunBytes.{IsInSpan, all_in_range, none_in_range, run_has, run_passes}
use Rattle.address_regions.specs.declared.region.Region.{Region}
use Rattle.address_regions.specs.Extents.{block_of, high_of, low_of}
use Rattle.address_regions.specs.Places.{HasBase, Places, place_at}
use Rattle.domain_laws.specs.declared.reach.Reach.{Reach}
use Rattle.domain_laws.specs.declared.reach.Reach.TheVariants.{Number, Place, Anywhere}
use Rattle.domain_laws.specs.Laws.{Values}
use Rattle.domain_laws.specs.Reached.{named}
use Rattle.partitioned_memory.specs.declared.area.Area.TheVariants.{In}
use Rattle.partitioned_memory.specs.declared.fact.Counted.{Counted}
use Rattle.partitioned_memory.specs.Areas.{interval_to}
use Rattle.partitioned_memory.specs.Held.{after_inside}
use Rattle.partitioned_memory.specs.Well.{HasCount, IsWell}
use Rattle.partitioned_memory.specs.Describes.{IsDescribed, IsWritten, bytes_in}
use Rattle.partitioned_memory.proofs.Bytes.{byte-from}
use Rattle.partitioned_memory.proofs.FactsKept.{beside-keeps, inside-keeps}
use Rattle.partitioned_memory.proofs.Orders.{int_le-true}
use Rattle.flow_log.specs.declared.cause.Cause.TheVariants as causes
use Rattle.abstract_state.specs.declared.stored.Stored.TheVariants.{Done, Faults, Stopped}
use Rattle.abstract_state.specs.Accessing.{StoredPath, any_put_in, any_stored, any_stored_by, cause_outside, is_in_fault_zone, lies_in_extent, stored_among, with_region_parts, with_spans}
use Rattle.abstract_state.specs.Describes.{Fits}
use Rattle.abstract_state.specs.Expanding.{Path}
use Rattle.abstract_state.specs.Notes.{is_in_bytes, note_unless}
use Rattle.abstract_state.specs.State.{AreSmall}
use Rattle.abstract_state.proofs.BridgeBytes.{place-later, region-bytes}
use Rattle.abstract_state.proofs.BridgeFits.{fits-apart, image-written}
use Rattle.abstract_state.proofs.BridgeKeeping.{IsKeptWell, Keeps, between-inside, keeps-among, parts-well}
use Rattle.abstract_state.proofs.BridgeParts.{spans-keep, unless-note}
use Rattle.abstract_state.proofs.Keeping.{inside-blocks, inside-well}

-- ---- spans

pub in_span-is : (y : ℕ) (s : Span) → is_in_span y s ≡ true → IsInSpan y s
in_span-is y s e =
    let parts = and_parts (nat_le s.low y) (nat_lt y (s.low + s.size)) e in
    record { low = leb-true s.low y parts.0; end = ltb-true y (s.low + s.size) parts.1 }

pub in_span-from : (y : ℕ) (s : Span) → IsInSpan y s → is_in_span y s ≡ true
in_span-from y s i = and_from (nat_le s.low y) (nat_lt y (s.low + s.size)) (le-leb s.low y i.low) (lt-ltb y (s.low + s.size) i.end)

-- ---- it keeps states well

module _ {D : Type 0} (d : Values D) (image : Image) (blocks : List Counted) (inside : All IsInUserSpace image.segments) (small : AreSmall blocks) where
  abbrev K : Path D → Type 0
  K q = IsKeptWell d image blocks inside small q

  abbrev KS : StoredPath D → Type 0
  KS x = Keeps d image blocks inside small x

  any-in-keeps : (q : Path D) (r : Region) (low high : ℤ) (n : ℕ) → K q → HasCount blocks (block_of r) → KS (any_put_in d image r low high n q)
  any-in-keeps q r low high n h counted =
      let end = high +ℤ pos n in
      let last = end -ℤ pos 1 in
      elim (lies_in_extent r low end) as (λ b. lies_in_extent r low end ≡ b → KS (cond b (Done, with_region_parts r low end (after_inside (In r) low last q.state.parts) q) (Stopped (cause_outside r), q))) [
        | true ↦ λ e.
            let parts = and_parts (int_le (low_of r) low) (int_le end (high_of r)) e in
            let least = int_le-true (low_of r) low parts.0 in
            let greatest = int_le-true end (high_of r) parts.1 in
            let own : HasCount q.state.parts.blocks (block_of r) = subst (λ (bs : List Counted). HasCount bs (block_of r)) (sym h.blocks_same) counted in
            let well = inside-well d q.state.parts (In r) low last (λ le. between-inside d image blocks inside small r low (last +ℤ pos 1) counted least (omega (arith, ints, greatest)) (omega (arith, ints, le))) own h.well.parts in
            parts-well d image blocks inside small q _ (note_unless (is_in_bytes (In r) low end) q.state.note) (is_in_bytes (In r) low end) _ h well (inside-blocks d q.state.parts (In r) low last) (unless-note (is_in_bytes (In r) low end) q.state.note)
        | false ↦ λ e. tt
      ] refl

  any-by-keeps : (q : Path D) (reach : Reach) (n : ℕ) → K q → HasCount blocks (named reach) → KS (any_stored_by d image reach n q)
  any-by-keeps q (Number low high) n h counted = keeps-among d image blocks inside small q low ((high + n) - low) h
  any-by-keeps q (Place r low high) n h counted = any-in-keeps q r low high n h counted
  any-by-keeps q Anywhere n h counted = tt

  pub any-keeps : (q : Path D) (v : D) (n : ℕ) → K q → HasCount blocks (named (d.reach v)) → KS (any_stored d image v n q)
  unfolding any_stored
  any-keeps q v n h counted = any-by-keeps q (d.reach v) n h counted

-- ---- it stands for the machine's

module _ {D : Type 0} (d : Values D) (image : Image) (p : Places) (m : MachineState) (f : Fits image p m) (inside : All IsInUserSpace image.segments) (rs : Regs D) where
  -- a path with given registers, whose parts describe the bytes c
  pub record IsPathAt (q : Path D) (c : ℕ → ℕ) : Type 0 where
    pub regs : q.state.regs ≡ rs
    pub described : IsDescribed d image.segments image.unset p q.state.parts c

  -- a write goes on where the machine does
  abbrev pub GoesTo : StoredPath D → (ℕ → ℕ) → Type 0
  GoesTo (Done, q) c = IsPathAt q c
  GoesTo (Faults, q) c = ⊥
  GoesTo (Stopped e, q) c = ⊤

  -- only bytes of a span were written, and they may be
  pub record IsOver (x k : ℕ) (b c : ℕ → ℕ) : Type 0 where
    pub stays : (y : ℕ) → (IsInSpan y (record { low = x; size = k }) → ⊥) → c y ≡ b y
    pub may : (y : ℕ) → x ≤ y → y < x + k → may_write (memory m) y ≡ true

  pub same-at : (q : Path D) (b c : ℕ → ℕ) → ((y : ℕ) → c y ≡ b y) → IsPathAt q b → IsPathAt q c
  same-at q b c same h = record {
    regs = h.regs;
    described = beside-keeps d image.segments image.unset p b c q.state.parts (λ a base i _ _. same (place_at base i)) h.described;
  }

  pub nothing : (q : Path D) (x k : ℕ) (b c : ℕ → ℕ) → IsOver x k b c → k ≡ 0 → IsPathAt q b → IsPathAt q c
  nothing q x k b c w e h = same-at q b c (λ y. w.stays y (λ i. omega (arith, e, i.low, i.end))) h

  -- a byte that may be written lies in user space
  user : (x k : ℕ) (b c : ℕ → ℕ) (y : ℕ) → IsOver x k b c → x ≤ y → y < x + k → (USER_LOW ≤ y) × (y < USER_END)
  user x k b c y w low high = mapped_inside (memory m) y (written_mapped (memory m) y (w.may y low high)) f.inside

  pub among-out : (q : Path D) (low size x k : ℕ) (b c : ℕ → ℕ) → IsWell d q.state.parts → IsPathAt q b → IsOver x k b c → 1 ≤ k → low ≤ x → x + k ≤ low + size → GoesTo (stored_among d image low size q) c
  among-out q low size x k b c well h w some above below =
      let spans = runs_of (may_write image.segments) low size in
      let go = with_spans spans q in
      let first = user x k b c x w (omega arith) (omega (arith, some)) in
      let writes : (y : ℕ) → x ≤ y → y < x + k → maps_all image.segments low size ≡ true → may_write image.segments y ≡ true = λ y from to e.
      image-written image p m y f (all_in_range (λ a. is_some (byte_at image.segments a)) low size y e (omega (arith, above, from)) (omega (arith, below, to))) (w.may y from to) in
      elim (is_in_fault_zone low size) as (λ t. is_in_fault_zone low size ≡ t → GoesTo (cond t (Faults, q) (cond (maps_all image.segments low size) (cond (may_write_any image.segments low size) (Done, go) (Faults, q)) (Stopped causes.Store, q))) c) [
        | true ↦ λ e. elim (or_cases (nat_le (low + size) USER_LOW) (nat_le USER_END low) e) [
          | inl z ↦ omega (arith, first.0, some, below, leb-true (low + size) USER_LOW z)
          | inr z ↦ omega (arith, first.1, above, leb-true USER_END low z)
        ]
        | false ↦ λ e. elim (maps_all image.segments low size) as (λ t. maps_all image.segments low size ≡ t → GoesTo (cond t (cond (may_write_any image.segments low size) (Done, go) (Faults, q)) (Stopped causes.Store, q)) c) [
          | true ↦ λ mapped. elim (may_write_any image.segments low size) as (λ t. may_write_any image.segments low size ≡ t → GoesTo (cond t (Done, go) (Faults, q)) c) [
            | true ↦ λ g. record {
              regs = h.regs;
              described = (spans-keep d image.segments image.unset p (fits-apart image p m f) inside spans q.state.parts b c
                  (λ y i. written_mapped image.segments y (run_passes (may_write image.segments) low size y i).passes)
                  (λ y off. w.stays y (λ i. off (run_has (may_write image.segments) low size y (omega (arith, above, i.low)) (omega (arith, below, i.end)) (writes y i.low i.end mapped))))
                  well h.described).described;
            }
            | false ↦ λ g. both_ways (may_write image.segments x) (none_in_range (may_write image.segments) low size x g above (omega (arith, below, some))) (writes x (omega arith) (omega (arith, some)) mapped)
          ] refl
          | false ↦ λ f. tt
        ] refl
      ] refl

  pub in-out : (q : Path D) (r : Region) (base : ℕ) (low high off : ℤ) (n x k : ℕ) (b c : ℕ → ℕ) → IsPathAt q b → IsOver x k b c → k ≤ n → x ≡ place_at base off → HasBase p r base → low ≤ℤ off → off ≤ℤ high
      → GoesTo (any_put_in d image r low high n q) c
  in-out q r base low high off n x k b c h w few at based above below =
      let end = high +ℤ pos n in
      let last = end -ℤ pos 1 in
      elim (lies_in_extent r low end) as (λ t. lies_in_extent r low end ≡ t → GoesTo (cond t (Done, with_region_parts r low end (after_inside (In r) low last q.state.parts) q) (Stopped (cause_outside r), q)) c) [
        | true ↦ λ e.
            let parts = and_parts (int_le (low_of r) low) (int_le end (high_of r)) e in
            let least = int_le-true (low_of r) low parts.0 in
            let greatest = int_le-true end (high_of r) parts.1 in
            let bytes = region-bytes image.segments r low (last +ℤ pos 1) least (omega (arith, ints, greatest)) in
            let written : IsWritten base (bytes_in (interval_to (In r) low last)) b c = λ y none. w.stays y (λ i.
            let j = y - x in
            let less = user x k b c y w i.low i.end in
            let il = i.low in let ie = i.end in
            let place : place_at base (off +ℤ pos j) ≡ place_at base off + j = place-later base off j (omega (arith, at, less.1, il)) in
            none (off +ℤ pos j)
            (byte-from (interval_to (In r) low last) (In r) (off +ℤ pos j) (record { area = refl; low = omega (arith, ints, above); high = omega (arith, ints, below, few, il, ie) }))
            (omega (arith, place, at, il))) in
            record {
              regs = h.regs;
              described = inside-keeps d image.segments image.unset p b c q.state.parts (In r) base low last (fits-apart image p m f) based bytes written h.described;
            }
        | false ↦ λ e. tt
      ] refl

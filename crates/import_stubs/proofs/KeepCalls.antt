-- Each next pair of a call is well.
use Rattle.std.proofs.Common.{◌≡◌, ℕ, ◌+◌, ◌^◌, ◌<◌, ◌≤◌, Bool, true, false, not, cond, List, [], ◌∷◌, map, Option, Some, None, refl, sym, ap, ◌∙◌, subst, arith, ℤ, pos, ◌+ℤ◌, ◌-ℤ◌, inl, inr}
use Rattle.std.specs.Prelude.{All, Contains, nat_le}
use Rattle.std.specs.List.{list_any}
use Rattle.std.proofs.lemmas.Bool.{false≢true, leb-true, or_left, or_right}
use Rattle.std.proofs.lemmas.Int.{ints}
use Rattle.std.proofs.lemmas.List.Elements.{Contains-append_cases}
use Rattle.bit_words.specs.declared.width.Width.TheVariants.{B32}
use Rattle.bit_words.specs.Width.{cut}
use Rattle.memory_map.specs.Image.{EXIT_PLACE, Image}
use Rattle.memory_map.specs.Range.{IsInUserSpace}
use Rattle.memory_map.specs.Registers.{register}
use Rattle.address_regions.specs.declared.region.Region.{Region}
use Rattle.address_regions.specs.declared.region.Region.TheVariants.{Stack, Fs, Gs, Block}
use Rattle.address_regions.specs.Extents.{has_one_base}
use Rattle.address_regions.specs.Places.{HasBase, IsAllowed, IsValid, Places, place_at}
use Rattle.address_regions.specs.Same.{same_region}
use Rattle.address_regions.proofs.PlaceLaws.{place_at-lt}
use Rattle.address_regions.proofs.RegionLaws.{same_region-refl}
use Rattle.domain_laws.specs.Laws.{IsLawful, Values}
use Rattle.domain_laws.specs.Reached.{named}
use Rattle.partitioned_memory.specs.declared.fact.Counted.{Counted}
use Rattle.partitioned_memory.specs.Lists.{placed}
use Rattle.partitioned_memory.specs.Held.{count_before, counted_again, counted_more, is_counted, is_stack_below, one_block}
use Rattle.partitioned_memory.specs.Well.{HasCount, MayHold}
use Rattle.partitioned_memory.proofs.Holding.{any-holds, named-block, number-holds}
use Rattle.partitioned_memory.proofs.Kept.{counted_more-keeps, filtered-kept}
use Rattle.stub_file.specs.declared.stub.Reply.{Reply}
use Rattle.stub_file.specs.declared.stub.Reply.TheVariants as reply
use Rattle.stub_file.specs.declared.stub.Stub.{Stub}
use Rattle.stub_file.specs.Stubs.{stub_named}
use Rattle.flow_log.proofs.Members.{Contains-cases, Contains-none}
use Rattle.abstract_state.specs.declared.stored.Stored.TheVariants.{Done, Faults, Stopped}
use Rattle.abstract_state.specs.Accessing.{StoredPath, after_store, lies_in_extent, put_in}
use Rattle.abstract_state.specs.Expanding.{Expanded, Path, ended, joined, lands, starts}
use Rattle.abstract_state.specs.State.{AreSmall, IsWellState, Known}
use Rattle.abstract_state.proofs.BridgeKeeping.{Keeps, keeps-in}
use Rattle.abstract_state.proofs.Keeping.{block-state, each-register, no-note}
use Rattle.import_semantics.specs.StubDoes.{LARGEST_BLOCK, block_size, frame_size}
use Rattle.import_stubs.specs.Laws.{CallKeepsWell}
use Rattle.import_stubs.specs.Stub.{amount_known, argument_value, calls, calls_at, enters, expand_call, expand_import, expand_stub, freed, hands_out, replies, return_value, returns, returns_block, returns_null, returns_to, stack_offset, with_block, with_result, with_writes}
use Rattle.import_stubs.proofs.KeepWrites.{writes-keep}

-- ---- some places

some_places : Region → Places
some_places r = record { align = 4; stack = 0x80000000; fs = 0x10000; gs = 0x20000; blocks = (r, 0x30000) ∷ [] }

some-allowed : (site size : ℕ) (zeroed : Bool) → size ≤ LARGEST_BLOCK → (r : Region) (b : ℕ) → HasBase (some_places (Block site size zeroed)) r b → IsAllowed r b
unfolding some_places
some-allowed site size zeroed less Stack b e = record { low = omega (arith, ints); high = omega (arith, ints) }
some-allowed site size zeroed less Fs b e = record { low = omega (arith, ints); high = omega (arith, ints) }
some-allowed site size zeroed less Gs b e = record { low = omega (arith, ints); high = omega (arith, ints) }
some-allowed site size zeroed less (Block x y z) b e =
    elim (Contains-cases (Block site size zeroed, 0x30000) (Block x y z, b) [] e) [
      | inl same ↦
          let P : Region × ℕ → Type 0 = λ k. IsAllowed k.0 k.1 in
          let own : IsAllowed (Block site size zeroed) 0x30000 = record { low = omega (arith, ints); high = omega (arith, ints, less) } in
          subst P same own
      | inr none ↦ absurd (Contains-none (Block x y z, b) none)
    ]

some-valid : (site size : ℕ) (zeroed : Bool) → size ≤ LARGEST_BLOCK → IsValid (some_places (Block site size zeroed))
unfolding some_places
some-valid site size zeroed less = record { alignment = refl; aligned = refl; allowed = some-allowed site size zeroed less }

some-stack : HasBase (some_places (Block 0 0 false)) Stack 0x80000000
unfolding some_places
some-stack = refl

some-block : (r : Region) (site size : ℕ) (zeroed : Bool) → r ≡ Block site size zeroed → HasBase (some_places (Block site size zeroed)) (Block site size zeroed) 0x30000
unfolding some_places
some-block r site size zeroed e = (0, omega arith, refl)

-- ---- counts

count-by : (blocks : List Counted) (o : Option Region) → ((s : Region) → o ≡ Some s → is_counted s blocks ≡ true) → HasCount blocks o
count-by blocks None h = tt
count-by blocks (Some s) h = h s refl

placed-any : (test : Counted → Bool) (y : Counted) (xs : List Counted) → test y ≡ true → list_any test (placed count_before y xs) ≡ true
placed-any test y [] e = or_left (test y) false e
placed-any test y (x ∷ xs) e =
    elim (count_before x y) as (λ b. list_any test (cond b (x ∷ placed count_before y xs) (y ∷ x ∷ xs)) ≡ true) [
      | true ↦ or_right (test x) (list_any test (placed count_before y xs)) (placed-any test y xs e)
      | false ↦ or_left (test y) (list_any test (x ∷ xs)) e
    ]

-- a region has a count once a block of it is handed out
pub counted-now : (r : Region) (blocks : List Counted) → is_counted r (counted_more r blocks) ≡ true
counted-now r blocks =
    elim (is_counted r blocks) as (λ b. is_counted r blocks ≡ b → is_counted r (cond b (map (counted_again r) blocks) (placed count_before (one_block r) blocks)) ≡ true) [
      | true ↦ λ e. subst (λ (b : Bool). is_counted r (cond b (map (counted_again r) blocks) (placed count_before (one_block r) blocks)) ≡ true) e (counted_more-keeps r r blocks e)
      | false ↦ λ e. placed-any (λ c. same_region c.region r) (one_block r) blocks (same_region-refl r)
    ] refl

module _ {D : Type 0} (d : Values D) (l : IsLawful d) where
  place-holds : (blocks : List Counted) (r : Region) (o : ℤ) (b : ℕ) (p : Places) → IsValid p → HasBase p r b → (has_one_base r ≡ false → is_counted r blocks ≡ true) → MayHold d blocks B32 (d.place r o)
  place-holds blocks r o b p valid has counted =
      let v = d.place r o in
      let at : d.stands v p (place_at b o) = l.place_stands r o b p valid has in
      record {
        fits = λ n e.
            let same : place_at b o ≡ n = l.number_of_alone v n p (place_at b o) valid e at in
            subst (λ (x : ℕ). x < 2 ^ 32) same (place_at-lt b o);
        counted = count-by blocks (named (d.reach v)) (λ s e.
            let is : s ≡ r = l.place_names r o s e in
            let block : has_one_base s ≡ false = named-block (d.reach v) s e in
            subst (λ (z : Region). is_counted z blocks ≡ true) (sym is) (counted (sym (ap has_one_base is) ∙ block)));
      }

  pub stack-place : (blocks : List Counted) (o : ℤ) → MayHold d blocks B32 (d.place Stack o)
  stack-place blocks o = place-holds blocks Stack o 0x80000000 (some_places (Block 0 0 false)) (some-valid 0 0 false (omega arith)) some-stack (λ e. absurd (false≢true (sym e)))

  pub block-place : (blocks : List Counted) (site size : ℕ) (zeroed : Bool) → size ≤ LARGEST_BLOCK → is_counted (Block site size zeroed) blocks ≡ true → MayHold d blocks B32 (d.place (Block site size zeroed) (pos 0))
  block-place blocks site size zeroed less counted =
      place-holds blocks (Block site size zeroed) (pos 0) 0x30000 (some_places (Block site size zeroed)) (some-valid site size zeroed less) (some-block (Block site size zeroed) site size zeroed refl) (λ e. counted)

  -- ---- states

  W : Path D → Type 0
  W q = IsWellState d q.state

  freed-well : (image : Image) (end : ℤ) (q : Path D) → IsWellState d q.state → IsWellState d (freed d image end q).state
  unfolding register
  freed-well image end q h =
      let any = any-holds d l q.state.parts.blocks B32 in
      record {
        parts = filtered-kept d (λ f. not (is_stack_below end f)) q.state.parts.facts _ q.state.parts.dirty q.state.parts.blocks h.parts refl;
        registers = each-register (MayHold d q.state.parts.blocks B32) (freed d image end q).state.regs (h.registers 0) any any (h.registers 3) (h.registers 4) (h.registers 5) (h.registers 6) (h.registers 7);
        small = h.small;
        note = no-note;
      }

  result-well : (image : Image) (top : ℤ) (v : D) (q : Path D) → MayHold d q.state.parts.blocks B32 v → IsWellState d q.state → IsWellState d (with_result d image top v q).state
  unfolding register
  result-well image top v q k h = record {
    parts = h.parts;
    registers = each-register (MayHold d q.state.parts.blocks B32) (with_result d image top v q).state.regs k (h.registers 1) (h.registers 2) (h.registers 3) (stack-place q.state.parts.blocks top) (h.registers 5) (h.registers 6) (h.registers 7);
    small = h.small;
    note = h.note;
  }

  block-well : (image : Image) (site size : ℕ) (zeroed : Bool) (q : Path D) → size ≤ LARGEST_BLOCK → IsWellState d q.state → IsWellState d (with_block d image (Block site size zeroed) q).state
  block-well image site size zeroed q less h =
      block-state d q.state.regs q.state.flags q.state.note q.state.parts _ (Block site size zeroed) refl (omega (arith, less)) refl h

  -- ---- next pairs

  abbrev pub KeepsWell : Expanded D → Type 0
  KeepsWell x = (pair : ℕ × Known D) → Contains x.next pair → IsWellState d pair.1

  nothing : (pair : ℕ × Known D) → Contains [] pair → IsWellState d pair.1
  nothing pair held = absurd (Contains-none pair held)

  lands-keeps : (a : ℕ) (t : Known D) → IsWellState d t → (pair : ℕ × Known D) → Contains ((a, t) ∷ []) pair → IsWellState d pair.1
  lands-keeps a t h pair held =
      elim (Contains-cases (a, t) pair [] held) [
        | inl e ↦ subst (λ (n : ℕ × Known D). IsWellState d n.1) e h
        | inr none ↦ absurd (Contains-none pair none)
      ]

  joined-keeps : (x y : Expanded D) → KeepsWell x → KeepsWell y → KeepsWell (joined x y)
  joined-keeps x y h k pair held = elim (Contains-append_cases x.next y.next pair held) [ inl z ↦ h pair z | inr z ↦ k pair z ]

  module _ (image : Image) (inside : All IsInUserSpace image.segments) where
    out-keeps : (top : ℤ) (site size : ℕ) (zeroed : Bool) (q : Path D) → IsWellState d q.state → KeepsWell (hands_out d image top site size zeroed q)
    out-keeps top site size zeroed q h =
        let r = Block site size zeroed in
        elim (nat_le size LARGEST_BLOCK) as (λ b. nat_le size LARGEST_BLOCK ≡ b → KeepsWell (cond b (lands site (with_result d image top (d.place r (pos 0)) (with_block d image r q))) (ended q.writes))) [
          | true ↦ λ e.
              let less = leb-true size LARGEST_BLOCK e in
              lands-keeps site _ (result-well image top (d.place r (pos 0)) (with_block d image r q) (block-place _ site size zeroed less (counted-now r q.state.parts.blocks)) (block-well image site size zeroed q less h))
          | false ↦ λ e. nothing
        ] refl

    any-keeps : (top : ℤ) (site : ℕ) (q : Path D) → IsWellState d q.state → KeepsWell (lands site (with_result d image top d.any q))
    any-keeps top site q h = lands-keeps site _ (result-well image top d.any q (any-holds d l q.state.parts.blocks B32) h)

    number-keeps : (top : ℤ) (site n : ℕ) (q : Path D) → n < 2 ^ 32 → IsWellState d q.state → KeepsWell (lands site (with_result d image top (d.number n) q))
    number-keeps top site n q less h = lands-keeps site _ (result-well image top (d.number n) q (number-holds d l q.state.parts.blocks B32 n less) h)

    block-keeps : (top : ℤ) (site : ℕ) (size : Option ℕ) (zeroed : Bool) (q : Path D) → IsWellState d q.state → KeepsWell (returns_block d image top site size zeroed q)
    block-keeps top site (Some n) zeroed q h = out-keeps top site (block_size n) zeroed q h
    block-keeps top site None zeroed q h = any-keeps top site q h

    null-keeps : (top : ℤ) (site : ℕ) (may : Bool) (q : Path D) → IsWellState d q.state → KeepsWell (returns_null d image top site may q)
    null-keeps top site true q h = number-keeps top site 0 q (omega arith) h
    null-keeps top site false q h = nothing

    word-cut : (n : ℕ) → cut B32 n < 2 ^ 32
    word-cut n = omega arith

    returns-keep : (o top : ℤ) (r : Reply) (site : ℕ) (s : Known D) (q : Path D) → IsWellState d q.state → KeepsWell (returns d image o top r site s q)
    returns-keep o top reply.Anything site s q h = any-keeps top site q h
    returns-keep o top (reply.Number n) site s q h = number-keeps top site (cut B32 n) q (word-cut n) h
    returns-keep o top (reply.Block size zeroed may) site s q h =
        joined-keeps (returns_block d image top site (amount_known d image o size s) zeroed q) (returns_null d image top site may q) (block-keeps top site (amount_known d image o size s) zeroed q h) (null-keeps top site may q h)
    returns-keep o top reply.Never site s q h = nothing
    returns-keep o top (reply.Enter i) site s q h = nothing

    to-keep : (o top : ℤ) (r : Reply) (site : Option ℕ) (s : Known D) (q : Path D) → IsWellState d q.state → KeepsWell (returns_to d image o top r site s q)
    to-keep o top r (Some site) s q h = returns-keep o top r site s q h
    to-keep o top r None s q h = nothing

    module _ (blocks : List Counted) (small : AreSmall blocks) where
      store-keeps : (x : StoredPath D) (k : Path D → Expanded D) → Keeps d image blocks inside small x → ((q : Path D) → IsWellState d q.state → q.state.parts.blocks ≡ blocks → KeepsWell (k q)) → KeepsWell (after_store d image x k)
      store-keeps (Done, q) k h then = then q h.well h.blocks_same
      store-keeps (Faults, q) k h then = nothing
      store-keeps (Stopped c, q) k h then = nothing

      enters-keep : (top : ℤ) (f : Option ℕ) (q : Path D) → IsWellState d q.state → q.state.parts.blocks ≡ blocks → KeepsWell (enters d image top f q)
      enters-keep top (Some f) q h same =
          store-keeps (put_in d Stack top top B32 (d.number EXIT_PLACE) q) (λ r. lands f (with_result d image top d.any r))
          (keeps-in d image blocks inside small q Stack top top B32 (d.number EXIT_PLACE) (record { well = h; blocks_same = same }) tt (number-holds d l blocks B32 EXIT_PLACE (omega arith)))
          (λ r well _. any-keeps top f r well)
      enters-keep top None q h same = nothing

      replies-keep : (o : ℤ) (stub : Stub) (r : Reply) (s : Known D) (q : Path D) → IsWellState d q.state → q.state.parts.blocks ≡ blocks → KeepsWell (replies d image o stub r s q)
      replies-keep o stub reply.Anything s q h same = to-keep o (o +ℤ pos (4 + stub.cleans)) reply.Anything (d.number_of (return_value d image o s)) s q h
      replies-keep o stub (reply.Number n) s q h same = to-keep o (o +ℤ pos (4 + stub.cleans)) (reply.Number n) (d.number_of (return_value d image o s)) s q h
      replies-keep o stub (reply.Block size zeroed may) s q h same = to-keep o (o +ℤ pos (4 + stub.cleans)) (reply.Block size zeroed may) (d.number_of (return_value d image o s)) s q h
      replies-keep o stub reply.Never s q h same = to-keep o (o +ℤ pos (4 + stub.cleans)) reply.Never (d.number_of (return_value d image o s)) s q h
      replies-keep o stub (reply.Enter i) s q h same = enters-keep (o -ℤ pos 4) (d.number_of (argument_value d image o i s)) q h same

    at-keeps : (stub : Stub) (o : ℤ) (s : Known D) → IsWellState d s → KeepsWell (calls_at d image stub o s)
    at-keeps stub o s well =
        let end = o +ℤ pos (frame_size stub) in
        let go = after_store d image (with_writes d image o stub.writes.items s) (λ p. replies d image o stub stub.reply s (freed d image end p)) in
        elim (lies_in_extent Stack o end) as (λ b. KeepsWell (cond b go (ended []))) [
          | true ↦
              store-keeps s.parts.blocks well.small (with_writes d image o stub.writes.items s) (λ p. replies d image o stub stub.reply s (freed d image end p))
              (writes-keep d l image s.parts.blocks inside well.small o s stub.writes.items (Done, starts s) well refl (record { well = well; blocks_same = refl }))
              (λ q h same. replies-keep s.parts.blocks well.small o stub stub.reply s (freed d image end q) (freed-well image end q h) same)
          | false ↦ nothing
        ]

    pub calls-keep : (stub : Stub) (o : Option ℤ) (s : Known D) → IsWellState d s → KeepsWell (calls d image stub o s)
    calls-keep stub (Some o) s well = at-keeps stub o s well
    calls-keep stub None s well = nothing

    call-keeps : (stub : Stub) (r : Reply) (s : Known D) → IsWellState d s → KeepsWell (expand_call d image stub r s)
    call-keeps stub reply.Anything s well = calls-keep stub (stack_offset (d.reach s.regs.esp)) s well
    call-keeps stub (reply.Number n) s well = calls-keep stub (stack_offset (d.reach s.regs.esp)) s well
    call-keeps stub (reply.Block size zeroed may) s well = calls-keep stub (stack_offset (d.reach s.regs.esp)) s well
    call-keeps stub reply.Never s well = nothing
    call-keeps stub (reply.Enter i) s well = calls-keep stub (stack_offset (d.reach s.regs.esp)) s well

    import-keeps : (stub : Option Stub) (s : Known D) → IsWellState d s → KeepsWell (expand_import d image stub s)
    import-keeps None s well = nothing
    import-keeps (Some stub) s well = call-keeps stub stub.reply s well

  pub call-keeps_well : CallKeepsWell d
  unfolding expand_stub
  call-keeps_well image stubs name s pair loaded well held = import-keeps image loaded.map.inside (stub_named name stubs) s well pair held

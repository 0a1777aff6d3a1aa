-- The replies of a call, each by its next pair; and the law of calls.
use Rattle.std.proofs.Common.{◌≡◌, ℕ, ◌+◌, ◌-◌, ◌*◌, ◌^◌, ◌<◌, Bool, true, false, not, cond, List, [], ◌∷◌, Option, Some, None, refl, sym, ap, ◌∙◌, subst, arith, ℤ, pos, ◌+ℤ◌, ◌-ℤ◌, inl, inr}
use Rattle.std.specs.Prelude.{◌≢◌, ◌&&◌, All, Contains, int_le, nat_le}
use Rattle.std.specs.Ordering.{int_eq}
use Rattle.std.proofs.lemmas.Bool.{and_from, and_parts, both_ways, cases_Bool, le-leb, not-false}
use Rattle.std.proofs.lemmas.Grind.{common_steps}
use Rattle.std.proofs.lemmas.Int.{ints}
use Rattle.std.proofs.lemmas.List.Elements.{Contains-append_left, Contains-append_right}
use Rattle.bit_words.specs.declared.width.Width.TheVariants.{B32}
use Rattle.memory_map.specs.declared.choice.Choice.{Choice}
use Rattle.memory_map.specs.declared.registers.Regs.{Regs}
use Rattle.memory_map.specs.Image.{EXIT_PLACE, Image}
use Rattle.memory_map.specs.Range.{IsInUserSpace, may_write}
use Rattle.memory_map.specs.State.{MachineState, memory}
use Rattle.memory_map.proofs.RunBytes.{all_in_range}
use Rattle.address_regions.specs.declared.region.Region.TheVariants.{Stack, Block}
use Rattle.address_regions.specs.Extents.{high_of, low_of}
use Rattle.address_regions.specs.Places.{Places}
use Rattle.domain_laws.specs.Laws.{IsLawful, Values}
use Rattle.partitioned_memory.specs.declared.area.Area.TheVariants.{In}
use Rattle.partitioned_memory.specs.Held.{PartsHeld, after_block, after_exact, after_forgetting, after_inside, is_stack_below}
use Rattle.partitioned_memory.specs.Well.{IsWell}
use Rattle.partitioned_memory.proofs.Kept.{filtered-kept}
use Rattle.partitioned_memory.proofs.Orders.{int_le-from, int_le-true}
use Rattle.stub_file.specs.declared.stub.Amount.{Amount}
use Rattle.stub_file.specs.declared.stub.Reply.{Reply}
use Rattle.stub_file.specs.declared.stub.Reply.TheVariants as reply
use Rattle.stub_file.specs.declared.stub.Stub.{Stub}
use Rattle.x86_semantics.specs.Memory.{with_number}
use Rattle.flow_log.proofs.Members.{Contains-here}
use Rattle.abstract_state.specs.declared.stored.Stored.TheVariants.{Done, Faults, Stopped}
use Rattle.abstract_state.specs.Accessing.{StoredPath, after_store, cause_outside, lies_in_extent, region_put, with_region_parts}
use Rattle.abstract_state.specs.Describes.{Describes}
use Rattle.abstract_state.specs.Expanding.{Expanded, Path, ended, joined, lands, starts}
use Rattle.abstract_state.specs.State.{IsWellState, Known}
use Rattle.abstract_state.proofs.BridgeKeeping.{IsKeptWell}
use Rattle.import_semantics.specs.StubDoes.{LARGEST_BLOCK, amount, argument, block_of, block_size, exit_spans, frame_size, fresh_block, may_write_span, result_of, spans_of, with_exit}
use Rattle.import_stubs.specs.Laws.{CallIsSound, IsFoundByPlaces}
use Rattle.import_stubs.specs.Stub.{amount_known, argument_value, calls, calls_at, enters, freed, replies, return_value, returns_block, returns_null, returns_to, stack_offset, with_result, with_writes}
use Rattle.import_stubs.specs.Stub as expanded
use Rattle.import_stubs.proofs.SoundFrame.{IsFrame, frame-is, word-stands}
use Rattle.import_stubs.proofs.SoundWrites.{IsAt, Out, amount-is, writes-out}
use Rattle.import_stubs.proofs.SoundMemory.{Facts, GoodBlock, after_by, after_writes, all-left, all-right, called-is, filled-registers, filled_by, good, writes-stay}
use Rattle.import_stubs.proofs.SoundCalls.{IsEntry, IsFound, beside, block-found, entry-found, left, no-causes, offset-is, plain-found, return-is, small, state_of, whole, word-cut}
use Rattle.import_stubs.proofs.KeepCalls.{calls-keep}
use Rattle.import_stubs.proofs.KeepWrites.{KS, writes-keep}

int_eq-refl : (z : ℤ) → int_eq z z ≡ true
int_eq-refl z = grind (arith, ints, common_steps)

module _ {D : Type 0} (d : Values D) (l : IsLawful d) (image : Image) (p : Places) (o : ℤ) (s : Known D) (m : MachineState) (inside : All IsInUserSpace image.segments)
    (well : IsWellState d s) (describes : Describes d image s p m) (stub : Stub) (choice : Choice) (frame : IsFrame p o m (frame_size stub)) where
  abbrev Found : (r : Reply) → Facts stub r choice m → Expanded D → MachineState → Type 0
  Found r facts x next = IsFound d l image p o s m inside well describes stub r choice facts frame x next

  abbrev end : ℤ
  end = o +ℤ pos (frame_size stub)

  abbrev top : ℤ
  top = o +ℤ pos (4 + stub.cleans)

  abbrev below : ℤ
  below = o -ℤ pos 4

  abbrev Written : (r : Reply) → Facts stub r choice m → Path D → Type 0
  Written r facts q = IsAt d l image p o s m inside well describes frame.sum q (after_writes image p stub r choice m describes.fits facts)

  abbrev Kept : Path D → Type 0
  Kept q = IsKeptWell d image s.parts.blocks inside well.small q

  abbrev last : Path D → Path D
  last q = freed d image end q

  abbrev parts_of : Path D → PartsHeld D
  parts_of q = after_forgetting end q.state.parts

  -- where it goes back to its caller

  any-returns : (facts : Facts stub reply.Anything choice m) (q : Path D) (site : Option ℕ) → Written reply.Anything facts q → d.number_of (return_value d image o s) ≡ site
      → (returns_to d image o top reply.Anything site s (last q)).causes ≡ [] → Found reply.Anything facts (returns_to d image o top reply.Anything site s (last q)) (after_by stub reply.Anything choice m (filled_by reply.Anything choice m))
  any-returns facts q None h e none = absurd (no-causes _ _ none)
  any-returns facts q (Some a) h e none =
      plain-found d l image p o s m inside well describes stub reply.Anything choice facts frame a q.state.regs (parts_of q) d.any (returns_to d image o top reply.Anything (Some a) s (last q)) (Contains-here _ [])
      (return-is d l image p o s m inside well describes stub reply.Anything choice facts frame a e) (record { target = refl; stack = refl }) h.regs (l.any_stands p _ describes.fits.valid) (word-cut choice.eax)
      (whole d l image p o s m inside well describes stub reply.Anything choice facts frame refl (parts_of q) (left d l image p o s m inside well describes stub reply.Anything choice facts frame q h))

  number-returns : (n : ℕ) (facts : Facts stub (reply.Number n) choice m) (q : Path D) (site : Option ℕ) → Written (reply.Number n) facts q → d.number_of (return_value d image o s) ≡ site
      → (returns_to d image o top (reply.Number n) site s (last q)).causes ≡ [] → Found (reply.Number n) facts (returns_to d image o top (reply.Number n) site s (last q)) (after_by stub (reply.Number n) choice m (filled_by (reply.Number n) choice m))
  number-returns n facts q None h e none = absurd (no-causes _ _ none)
  number-returns n facts q (Some a) h e none =
      let v = result_of (reply.Number n) choice in
      plain-found d l image p o s m inside well describes stub (reply.Number n) choice facts frame a q.state.regs (parts_of q) (d.number v) (returns_to d image o top (reply.Number n) (Some a) s (last q)) (Contains-here _ [])
      (return-is d l image p o s m inside well describes stub (reply.Number n) choice facts frame a e) (record { target = refl; stack = refl }) h.regs (l.number_stands v p describes.fits.valid) (word-cut n)
      (whole d l image p o s m inside well describes stub (reply.Number n) choice facts frame refl (parts_of q) (left d l image p o s m inside well describes stub (reply.Number n) choice facts frame q h))

  -- with a block

  module _ (size : Amount) (zeroed may : Bool) (facts : Facts stub (reply.Block size zeroed may) choice m) (q : Path D) (h : Written (reply.Block size zeroed may) facts q) (kept : Kept q) (a : ℕ)
      (e : d.number_of (return_value d image o s) ≡ Some a) where
    abbrev R : Reply
    R = reply.Block size zeroed may

    abbrev given : Option ℕ → Expanded D
    given known = returns_block d image top a known zeroed (last q)

    abbrev null : Expanded D
    null = returns_null d image top a may (last q)

    abbrev after : MachineState
    after = after_by stub R choice m (filled_by R choice m)

    -- a call that fails gives 0
    null-found : choice.fails ≡ true → Found R facts null after
    null-found fails =
        let may_is : may ≡ true = not-false may (sym (ap (λ b. b && not may) fails) ∙ facts.fails) in
        let none : block_of R choice m ≡ None = ap (λ b. cond b None (Some (fresh_block choice.base (block_size (amount size m))))) fails in
        let zero_is : result_of R choice ≡ 0 = ap (λ b. cond b 0 choice.base) fails in
        let held : Contains null.next (a, state_of d l image p o s m inside well describes stub R choice facts frame q.state.regs (parts_of q) (d.number 0) top) =
        subst (λ (b : Bool). Contains (returns_null d image top a b (last q)).next (a, state_of d l image p o s m inside well describes stub R choice facts frame q.state.regs (parts_of q) (d.number 0) top)) (sym may_is) (Contains-here _ []) in
        plain-found d l image p o s m inside well describes stub R choice facts frame a q.state.regs (parts_of q) (d.number 0) null held (return-is d l image p o s m inside well describes stub R choice facts frame a e) (record { target = refl; stack = refl }) h.regs
        (subst (d.stands (d.number 0) p) (sym zero_is) (l.number_stands 0 p describes.fits.valid)) (subst (λ (z : ℕ). z < 2 ^ 32) (sym zero_is) (omega arith))
        (whole d l image p o s m inside well describes stub R choice facts frame none (parts_of q) (left d l image p o s m inside well describes stub R choice facts frame q h))

    block-is : choice.fails ≡ false → block_of R choice m ≡ Some (fresh_block choice.base (block_size (amount size m)))
    block-is fails = ap (λ b. cond b None (Some (fresh_block choice.base (block_size (amount size m))))) fails

    base-is : choice.fails ≡ false → result_of R choice ≡ choice.base
    base-is fails = ap (λ b. cond b 0 choice.base) fails

    base-less : choice.fails ≡ false → choice.base < 2 ^ 32
    base-less fails =
        let lies : GoodBlock m (Some (fresh_block choice.base (block_size (amount size m)))) = subst (GoodBlock m) (block-is fails) (good image p stub R choice m describes.fits facts) in
        let below = lies.0.user.below in
        omega (arith, below)

    -- the base of a block of which nothing is known, or its place
    given-found : (known : Option ℕ) → amount_known d image o size s ≡ known → choice.fails ≡ false → Found R facts (given known) after
    given-found None k fails =
        plain-found d l image p o s m inside well describes stub R choice facts frame a q.state.regs (parts_of q) d.any (given None) (Contains-here _ []) (return-is d l image p o s m inside well describes stub R choice facts frame a e) (record { target = refl; stack = refl }) h.regs
        (l.any_stands p _ describes.fits.valid) (subst (λ (z : ℕ). z < 2 ^ 32) (sym (base-is fails)) (base-less fails)) (beside d l image p o s m inside well describes stub R choice facts frame (parts_of q) (left d l image p o s m inside well describes stub R choice facts frame q h))
    given-found (Some n) k fails =
        let same : amount size m ≡ n = amount-is d l image p o s m inside well describes frame.sum size n k in
        let is : block_of R choice m ≡ Some (fresh_block choice.base (block_size n)) = block-is fails ∙ ap (λ z. Some (fresh_block choice.base (block_size z))) same in
        let size_now = block_size n in
        let held_well : IsWell d (parts_of q) = filtered-kept d (λ f. not (is_stack_below end f)) q.state.parts.facts _ q.state.parts.dirty q.state.parts.blocks kept.well.parts refl in
        let parts = left d l image p o s m inside well describes stub R choice facts frame q h in
        let place = d.place (Block a size_now zeroed) (pos 0) in
        let st = state_of d l image p o s m inside well describes stub R choice facts frame q.state.regs (after_block (Block a size_now zeroed) (parts_of q)) place top in
        let fits : nat_le size_now LARGEST_BLOCK ≡ true = le-leb size_now LARGEST_BLOCK (small d l image p o s m inside well describes stub R choice facts frame a size_now zeroed (parts_of q) held_well kept.blocks_same is refl parts) in
        let go = lands a (with_result d image top place (expanded.with_block d image (Block a size_now zeroed) (last q))) in
        let held : Contains (given (Some n)).next (a, st) = subst (λ (b : Bool). Contains (let x : Expanded D = cond b go (ended (last q).writes) in x).next (a, st)) (sym fits) (Contains-here (a, st) []) in
        block-found d l image p o s m inside well describes stub R choice facts frame a size_now zeroed (parts_of q) held_well kept.blocks_same is refl parts q.state.regs (given (Some n)) held (return-is d l image p o s m inside well describes stub R choice facts frame a e) (record { target = refl; stack = refl }) h.regs (base-is fails)

    found-left : (x y : Expanded D) → Found R facts x after → Found R facts (joined x y) after
    found-left x y k = record { state = k.state; places = k.places; pair = Contains-append_left x.next y.next _ k.pair; told = k.told }

    found-right : (x y : Expanded D) → Found R facts y after → Found R facts (joined x y) after
    found-right x y k = record { state = k.state; places = k.places; pair = Contains-append_right x.next y.next _ k.pair; told = k.told }

    either-found : Found R facts (joined (given (amount_known d image o size s)) null) after
    either-found =
        elim (cases_Bool choice.fails) [
          | inl fails ↦ found-right (given (amount_known d image o size s)) null (null-found fails)
          | inr fails ↦ found-left (given (amount_known d image o size s)) null (given-found (amount_known d image o size s) refl fails)
        ]

  block-returns : (size : Amount) (zeroed may : Bool) (facts : Facts stub (reply.Block size zeroed may) choice m) (q : Path D) (site : Option ℕ) → Written (reply.Block size zeroed may) facts q → Kept q → d.number_of (return_value d image o s) ≡ site
      → (returns_to d image o top (reply.Block size zeroed may) site s (last q)).causes ≡ []
      → Found (reply.Block size zeroed may) facts (returns_to d image o top (reply.Block size zeroed may) site s (last q)) (after_by stub (reply.Block size zeroed may) choice m (filled_by (reply.Block size zeroed may) choice m))
  block-returns size zeroed may facts q None h kept e none = absurd (no-causes _ _ none)
  block-returns size zeroed may facts q (Some a) h kept e none = either-found size zeroed may facts q h kept a e

  -- into a function

  entry-is : (i : ℕ) (facts : Facts stub (reply.Enter i) choice m) → IsEntry d l image p o s m inside well describes stub (reply.Enter i) choice facts frame i
  entry-is i facts = record {
    none = refl;
    target = refl;
    stack = refl;
    writes = λ c from to.
        let exit = all-right (may_write_span m) (spans_of stub m) (exit_spans (reply.Enter i) m) facts.may in
        all_in_range (may_write (memory m)) (m.registers.esp - 4) 4 c (and_parts (may_write_span m (record { low = m.registers.esp - 4; size = 4 })) true exit).0 from to;
    result = word-cut choice.eax;
  }

  enter-found : (i : ℕ) (facts : Facts stub (reply.Enter i) choice m) (q : Path D) (fn : Option ℕ) → Written (reply.Enter i) facts q → d.number_of (argument_value d image o i s) ≡ fn
      → (enters d image below fn (last q)).causes ≡ [] → Found (reply.Enter i) facts (enters d image below fn (last q)) (after_by stub (reply.Enter i) choice m (with_exit (reply.Enter i) (filled_by (reply.Enter i) choice m)))
  enter-found i facts q None h e none = absurd (no-causes _ _ none)
  enter-found i facts q (Some a) h e none =
      let v = d.number EXIT_PLACE in
      let lies = lies_in_extent Stack below (below +ℤ pos 4) in
      let exact = after_exact d (In Stack) below B32 v (parts_of q) in
      let about = after_inside (In Stack) below ((below +ℤ pos 4) -ℤ pos 1) (parts_of q) in
      let go = with_region_parts Stack below (below +ℤ pos 4) (region_put d Stack below below B32 v (parts_of q)) (last q) in
      let k : Path D → Expanded D = λ r. lands a (with_result d image below d.any r) in
      let next = after_by stub (reply.Enter i) choice m (with_exit (reply.Enter i) (filled_by (reply.Enter i) choice m)) in
      elim lies as (λ b. lies ≡ b → (after_store d image (let x : StoredPath D = cond b (Done, go) (Stopped (cause_outside Stack), last q) in x) k).causes ≡ []
      → Found (reply.Enter i) facts (after_store d image (let x : StoredPath D = cond b (Done, go) (Stopped (cause_outside Stack), last q) in x) k) next) [
        | true ↦ λ t _.
            let least = int_le-true (low_of Stack) below (and_parts (int_le (low_of Stack) below) (int_le (below +ℤ pos 4) (high_of Stack)) t).0 in
            let st = state_of d l image p o s m inside well describes stub (reply.Enter i) choice facts frame q.state.regs exact d.any below in
            let pair : ℕ × Known D = (a, st) in
            let pairs : PartsHeld D → List (ℕ × Known D) = λ y. (a, state_of d l image p o s m inside well describes stub (reply.Enter i) choice facts frame q.state.regs y d.any below) ∷ [] in
            let held : Contains (k go).next pair = subst (λ (b : Bool). Contains (pairs (cond b exact about)) pair) (sym (int_eq-refl below)) (Contains-here pair []) in
            let filled = filled_by (reply.Enter i) choice m in
            let regs = filled-registers image p stub (reply.Enter i) choice m describes.fits facts in
            subst (λ (z : Regs ℕ). Found (reply.Enter i) facts (k go) (after_by stub (reply.Enter i) choice m (with_number 4 (z.esp - 4) EXIT_PLACE filled))) (sym regs)
            (entry-found d l image p o s m inside well describes stub (reply.Enter i) choice facts frame i (entry-is i facts) least a q.state.regs (parts_of q) (k go) held
            (l.number_of_alone (argument_value d image o i s) a p (argument i m) describes.fits.valid e (word-stands d l image p o (4 + 4 * i) s m describes frame.sum)) h.regs (left d l image p o s m inside well describes stub (reply.Enter i) choice facts frame q h))
        | false ↦ λ t n. absurd (no-causes _ _ n)
      ] refl none

  -- ---- each reply

  replies-found : (r : Reply) (facts : Facts stub r choice m) (q : Path D) → r ≢ reply.Never → Written r facts q → Kept q → (replies d image o stub r s (last q)).causes ≡ []
      → Found r facts (replies d image o stub r s (last q)) (after_by stub r choice m (with_exit r (filled_by r choice m)))
  replies-found reply.Anything facts q some h kept none = any-returns facts q (d.number_of (return_value d image o s)) h refl none
  replies-found (reply.Number n) facts q some h kept none = number-returns n facts q (d.number_of (return_value d image o s)) h refl none
  replies-found (reply.Block size zeroed may) facts q some h kept none = block-returns size zeroed may facts q (d.number_of (return_value d image o s)) h kept refl none
  replies-found reply.Never facts q some h kept none = absurd (some refl)
  replies-found (reply.Enter i) facts q some h kept none = enter-found i facts q (d.number_of (argument_value d image o i s)) h refl none

  store-found : (r : Reply) (facts : Facts stub r choice m) (x : StoredPath D) → r ≢ reply.Never
      → Out d l image p o s m inside well describes frame.sum x (after_writes image p stub r choice m describes.fits facts) → KS d l image s.parts.blocks inside well.small x
      → (after_store d image x (λ q. replies d image o stub r s (last q))).causes ≡ [] → Found r facts (after_store d image x (λ q. replies d image o stub r s (last q))) (after_by stub r choice m (with_exit r (filled_by r choice m)))
  store-found r facts (Done, q) some h kept none = replies-found r facts q some h kept none
  store-found r facts (Faults, q) some h kept none = absurd h
  store-found r facts (Stopped c, q) some h kept none = absurd (no-causes _ _ none)

  call-found : (facts : Facts stub stub.reply choice m) → stub.reply ≢ reply.Never → (calls_at d image stub o s).causes ≡ []
      → Found stub.reply facts (calls_at d image stub o s) (after_by stub stub.reply choice m (with_exit stub.reply (filled_by stub.reply choice m)))
  call-found facts some none =
      let r = stub.reply in
      let x = with_writes d image o stub.writes.items s in
      let start : IsKeptWell d image s.parts.blocks inside well.small (starts s) = record { well = well; blocks_same = refl } in
      let kept : KS d l image s.parts.blocks inside well.small x = writes-keep d l image s.parts.blocks inside well.small o s stub.writes.items (Done, starts s) well refl start in
      let out : Out d l image p o s m inside well describes frame.sum x (after_writes image p stub r choice m describes.fits facts) =
      writes-out d l image p o s m inside well describes frame.sum stub.writes.items (Done, starts s) _ (after_writes image p stub r choice m describes.fits facts) start (record { regs = refl; described = describes.parts })
      (all-left (may_write_span m) (spans_of stub m) (exit_spans r m) facts.may) (writes-stay image p stub r choice m describes.fits facts) in
      let next = after_by stub r choice m (with_exit r (filled_by r choice m)) in
      let go = after_store d image x (λ q. replies d image o stub r s (last q)) in
      elim (lies_in_extent Stack o end) as (λ b. lies_in_extent Stack o end ≡ b → (let y : Expanded D = cond b go (ended []) in y).causes ≡ [] → Found r facts (let y : Expanded D = cond b go (ended []) in y) next) [
        | true ↦ λ t n. store-found r facts x some out kept n
        | false ↦ λ t n. absurd (both_ways (lies_in_extent Stack o end) t (and_from (int_le (low_of Stack) o) (int_le end (high_of Stack)) (int_le-from (low_of Stack) o frame.low) (int_le-from end (high_of Stack) frame.end)))
      ] refl none

pub call-is_sound : {D : Type 0} (d : Values D) (l : IsLawful d) → CallIsSound d
call-is_sound d l image stub choice s p m next loaded well describes some does none =
    let reached = l.reach_holds s.regs.esp p m.registers.esp describes.fits.valid describes.registers.esp in
    let inside = loaded.map.inside in
    let called = called-is stub choice m next does in
    elim (stack_offset (d.reach s.regs.esp)) as (λ w. stack_offset (d.reach s.regs.esp) ≡ w → (calls d image stub w s).causes ≡ [] → IsFoundByPlaces d image (calls d image stub w s) next) [
      | None ↦ λ e n. absurd (no-causes _ _ n)
      | Some o ↦ λ e n.
          let at = offset-is (d.reach s.regs.esp) p m.registers.esp o reached e in
          let frame = frame-is image p o m (frame_size stub) describes.fits at.is at.least at.most called.facts.frame in
          let found = subst (λ (z : MachineState). IsFound d l image p o s m inside well describes stub stub.reply choice called.facts frame (calls_at d image stub o s) z) called.next_is
          (call-found d l image p o s m inside well describes stub choice frame called.facts some n) in
          record {
            state = found.state;
            places = found.places;
            pair = found.pair;
            well = calls-keep d l image inside stub (Some o) s well (next.eip, found.state) found.pair;
            describes = found.told;
          }
    ] refl none

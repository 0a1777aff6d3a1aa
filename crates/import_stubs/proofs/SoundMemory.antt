-- The step of a call by its parts: what must hold of it, and what it leaves of memory.
use Rattle.std.proofs.Common.{◌≡◌, ℕ, zero, suc, ◌+◌, ◌-◌, ◌<◌, ◌==◌, Bool, true, false, not, cond, List, [], ◌∷◌, ◌++◌, map, Option, Some, None, refl, sym, ap, ◌∙◌, subst, arith, ℤ, pos, negsuc, ◌+ℤ◌, ◌-ℤ◌, inl, inr, replicate}
use Rattle.std.specs.Prelude.{⊤, ◌&&◌, ◌||◌, All, int_lt, is_some, nat_le, nat_lt, slice_get, unwrap_or}
use Rattle.std.specs.List.{list_all, list_any}
use Rattle.std.proofs.lemmas.Bool.{and_from, and_parts, both_ways, eqb-true, false_from_ne_true, false≢true, le-leb, leb-true, lt-ltb, ltb-true, not-false, or_cases, or_left, or_right}
use Rattle.std.proofs.lemmas.Int.{ints}
use Rattle.std.proofs.lemmas.List.Elements.{All-cons, All-nil, All-weaker}
use Rattle.std.proofs.lemmas.List.{map-append}
use Rattle.std.proofs.lemmas.List.Folds.{list_any_at}
use Rattle.bit_words.specs.declared.width.Width.TheVariants.{B32}
use Rattle.bit_words.specs.Width.{cut}
use Rattle.memory_map.specs.declared.choice.Choice.{Choice}
use Rattle.memory_map.specs.declared.fault.BadKind.{BadKind}
use Rattle.memory_map.specs.declared.fault.FaultKind.{FaultKind}
use Rattle.memory_map.specs.declared.span.Span.{Span}
use Rattle.memory_map.specs.Image.{Image}
use Rattle.memory_map.specs.Range.{AreApart, HasBytes, Mapping, Range, byte_at, end_of, has, mapping_of, may_write}
use Rattle.memory_map.specs.Spans.{is_in_span}
use Rattle.memory_map.specs.State.{MachineState, memory}
use Rattle.memory_map.proofs.Mappings.{apart_not_in, is_mapped, is_written, lies_at, mapped_inside, writes_at, written_mapped}
use Rattle.memory_map.proofs.RunBytes.{IsInOne, all_in_range}
use Rattle.address_regions.specs.declared.region.Region.TheVariants.{Stack}
use Rattle.address_regions.specs.Extents.{is_in_extent}
use Rattle.address_regions.specs.Places.{Places, place_at}
use Rattle.address_regions.proofs.PlaceLaws.{place_at-is}
use Rattle.address_regions.proofs.RegionLaws.{byte_place, in_extent-tells}
use Rattle.partitioned_memory.specs.declared.area.Area.{Area}
use Rattle.partitioned_memory.specs.declared.area.Area.TheVariants.{Image as Loaded, In}
use Rattle.partitioned_memory.specs.Describes.{IsWritten, StartsAt, is_byte_of, is_image_byte, stack_bytes_below}
use Rattle.partitioned_memory.proofs.Orders.{int_lt-from}
use Rattle.stub_file.specs.declared.stub.Reply.{Reply}
use Rattle.stub_file.specs.declared.stub.Reply.TheVariants as reply
use Rattle.stub_file.specs.declared.stub.Stub.{Stub}
use Rattle.x86_semantics.proofs.Storing.{byte_of}
use Rattle.abstract_state.specs.Describes.{Fits, byte_in, mappings}
use Rattle.abstract_state.proofs.BridgeAny.{in_span-is}
use Rattle.abstract_state.proofs.BridgeBytes.{extent-from}
use Rattle.abstract_state.proofs.BridgeFits.{fits_kept, image-mapped}
use Rattle.import_semantics.specs.StubDoes.{Returned, block_of, end_by, exit_spans, filled_in, flags_after, frame_size, has_frame, is_allowed, is_zeroed, lacks_block, may_fail, may_hold, may_write_span, result_of, spans_of, stack_after, stub_does, target_of, with_block, with_bytes, with_exit}
use Rattle.import_stubs.proofs.SoundBytes.{filled-is, filled-others, filled-zero, more-byte, own-byte, zero-bytes}
use Rattle.import_stubs.proofs.SoundFrame.{IsFrame}
use Rattle.import_stubs.proofs.SoundPlaces.{MayLie, fits-more, may_lie-is}

-- ---- the step, with its reply told apart

abbrev pub is_freed_by : Stub → Reply → MachineState → ℕ → Bool
is_freed_by stub r m a =
    not (list_any (is_in_span a) (exit_spans r m)) && (list_any (is_in_span a) (spans_of stub m) || (has a m.stack && nat_lt a (m.registers.esp + frame_size stub)))

abbrev pub may_fill_by : Stub → Reply → Choice → MachineState → ℕ × ℕ → Bool
may_fill_by stub r choice m filled = is_freed_by stub r m filled.0 || may_hold (is_zeroed r) (block_of r choice m) filled

abbrev pub after_by : Stub → Reply → Choice → MachineState → MachineState → MachineState
after_by stub r choice m n = record n {
  registers = record (m.registers) { eax = result_of r choice; ecx = cut B32 choice.ecx; edx = cut B32 choice.edx; esp = stack_after stub r m.registers.esp };
  eip = target_of r m;
  flags = flags_after choice m.flags;
}

-- the memory after the block and the fills
abbrev pub filled_by : Reply → Choice → MachineState → MachineState
filled_by r choice m = with_bytes (filled_in choice) (with_block (block_of r choice m) m)

-- the call has no fault, and the choice is allowed
pub record Facts (stub : Stub) (r : Reply) (choice : Choice) (m : MachineState) : Type 0 where
  pub frame : has_frame stub m ≡ true
  pub may : list_all (may_write_span m) (spans_of stub m ++ exit_spans r m) ≡ true
  pub fails : (choice.fails && not (may_fail r)) ≡ false
  pub allowed : is_allowed m (block_of r choice m) ≡ true
  pub fill : list_all (may_fill_by stub r choice m) (filled_in choice) ≡ true

three : {X : Type 0} (a b c : Bool) (x y z : X) → cond a (Some x) (cond b (Some y) (cond c (Some z) None)) ≡ None → (a ≡ false) × (b ≡ false) × (c ≡ false)
three true b c x y z e = absurd (cc)
three false true c x y z e = absurd (cc)
three false false true x y z e = absurd (cc)
three false false false x y z e = (refl, refl, refl)

record IsEnd (f : Option FaultKind) (b : Option BadKind) (n next : MachineState) : Type 0 where
  pub none : f ≡ None
  pub good : b ≡ None
  pub is : n ≡ next

end-is : (f : Option FaultKind) (b : Option BadKind) (n next : MachineState) → end_by f b n ≡ Returned next → IsEnd f b n next
end-is (Some k) b n next e = absurd (cc)
end-is None (Some k) n next e = absurd (cc)
end-is None None n next e = record { none = refl; good = refl; is = cc }

pub record IsCalled (stub : Stub) (choice : Choice) (m next : MachineState) : Type 0 where
  pub facts : Facts stub stub.reply choice m
  pub next_is : after_by stub stub.reply choice m (with_exit stub.reply (filled_by stub.reply choice m)) ≡ next

pub called-is : (stub : Stub) (choice : Choice) (m next : MachineState) → stub_does stub choice m ≡ Returned next → IsCalled stub choice m next
unfolding stub_does
called-is stub choice m next e =
    let k = end-is _ _ _ next e in
    let clear = three (not (has_frame stub m)) (not (list_all (may_write_span m) (spans_of stub m ++ exit_spans stub.reply m))) (lacks_block stub.reply m) _ _ _ k.none in
    let plain = three (choice.fails && not (may_fail stub.reply)) (not (is_allowed m (block_of stub.reply choice m))) (not (list_all (may_fill_by stub stub.reply choice m) (filled_in choice))) _ _ _ k.good in
    record {
      facts = record {
        frame = not-false (has_frame stub m) clear.0;
        may = not-false (list_all (may_write_span m) (spans_of stub m ++ exit_spans stub.reply m)) clear.1;
        fails = plain.0;
        allowed = not-false (is_allowed m (block_of stub.reply choice m)) plain.1;
        fill = not-false (list_all (may_fill_by stub stub.reply choice m) (filled_in choice)) plain.2;
      };
      next_is = k.is;
    }

pub all-left : {X : Type 0} (test : X → Bool) (xs ys : List X) → list_all test (xs ++ ys) ≡ true → list_all test xs ≡ true
all-left test [] ys e = refl
all-left test (x ∷ xs) ys e = (let parts = and_parts (test x) (list_all test (xs ++ ys)) e in and_from (test x) (list_all test xs) parts.0 (all-left test xs ys parts.1))

pub all-right : {X : Type 0} (test : X → Bool) (xs ys : List X) → list_all test (xs ++ ys) ≡ true → list_all test ys ≡ true
all-right test [] ys e = e
all-right test (x ∷ xs) ys e = all-right test xs ys (and_parts (test x) (list_all test (xs ++ ys)) e).1

pub in_one-from : (y : ℕ) (ss : List Span) → list_any (is_in_span y) ss ≡ true → IsInOne y ss
in_one-from y [] e = false≢true e
in_one-from y (s ∷ ss) e =
    elim (or_cases (is_in_span y s) (list_any (is_in_span y) ss) e) [
      | inl h ↦ inl (in_span-is y s h)
      | inr h ↦ inr (in_one-from y ss h)
    ]

-- ---- a block

-- an address is one of the block's
abbrev pub lies_in : Option Range → ℕ → Bool
lies_in None a = false
lies_in (Some r) a = has a r

abbrev pub GoodBlock : MachineState → Option Range → Type 0
GoodBlock m None = ⊤
GoodBlock m (Some x) = MayLie m x × (x.execute ≡ false) × HasBytes x

zeros-bytes : (n : ℕ) → All (λ b. b < 256) (replicate n zero)
zeros-bytes zero = All-nil (λ b. b < 256)
zeros-bytes (suc n) = All-cons (λ b. b < 256) 0 (replicate n zero) (omega arith) (zeros-bytes n)

good-block : (r : Reply) (choice : Choice) (m : MachineState) → is_allowed m (block_of r choice m) ≡ true → GoodBlock m (block_of r choice m)
good-block reply.Anything choice m e = tt
good-block (reply.Number n) choice m e = tt
good-block reply.Never choice m e = tt
good-block (reply.Enter i) choice m e = tt
good-block (reply.Block size zeroed may) choice m e =
    let block = block_of (reply.Block size zeroed may) (record choice { fails = false }) m in
    elim choice.fails as (λ b. is_allowed m (cond b None block) ≡ true → GoodBlock m (cond b None block)) [
      | true ↦ λ k. tt
      | false ↦ λ k. (may_lie-is m _ k, refl, zeros-bytes _)
    ] e

block-fits : (image : Image) (p : Places) (m : MachineState) (b : Option Range) → GoodBlock m b → Fits image p m → Fits image p (with_block b m)
block-fits image p m None g f = f
block-fits image p m (Some x) g f = fits-more image p m x g.0 g.1 g.2 f

block-byte : (m : MachineState) (b : Option Range) (c : ℕ) → lies_in b c ≡ false → byte_at (memory (with_block b m)) c ≡ byte_at (memory m) c
block-byte m None c off = refl
block-byte m (Some x) c off = more-byte (memory m) x c off

block-registers : (m : MachineState) (b : Option Range) → (with_block b m).registers ≡ m.registers
block-registers m None = refl
block-registers m (Some x) = refl

block-fs : (m : MachineState) (b : Option Range) → (with_block b m).fs ≡ m.fs
block-fs m None = refl
block-fs m (Some x) = refl

block-gs : (m : MachineState) (b : Option Range) → (with_block b m).gs ≡ m.gs
block-gs m None = refl
block-gs m (Some x) = refl

-- what is mapped is none of the block's
pub mapped-off : (m : MachineState) (b : Option Range) (c : ℕ) → GoodBlock m b → is_some (byte_at (memory m) c) ≡ true → lies_in b c ≡ false
mapped-off m None c g e = refl
mapped-off m (Some x) c g e = apart_not_in x (memory m) c (All-weaker (λ y. AreApart y x) (AreApart x) (λ y h. elim h [ inl z ↦ inr z | inr z ↦ inl z ]) (memory m) g.0.apart) e

may_hold-off : (z : Bool) (b : Option Range) (c v : ℕ) → lies_in b c ≡ false → may_hold z b (c, v) ≡ true → ⊥
may_hold-off z None c v off e = false≢true e
may_hold-off z (Some x) c v off e = both_ways (has c x) off (and_parts (has c x) (not z || v == 0) e).0

-- ---- the bytes of areas are mapped

image-there : (image : Image) (p : Places) (m : MachineState) (base : ℕ) (i : ℤ) → Fits image p m → base ≡ 0 → is_image_byte image.segments i ≡ true → is_some (byte_at (memory m) (place_at base i)) ≡ true
image-there image p m base (pos a) f starts e =
    let mapped = image-mapped image p m a f e in
    let inside = mapped_inside (memory m) a mapped f.inside in
    let at : place_at base (pos a) ≡ a = place_at-is base (pos a) a (omega (arith, ints, starts)) (omega (arith, inside.1)) in
    subst (λ (z : ℕ). is_some (byte_at (memory m) z) ≡ true) (sym at) mapped
image-there image p m base (negsuc a) f starts e = absurd (false≢true e)

pub area-mapped : (image : Image) (p : Places) (m : MachineState) (a : Area) (base : ℕ) (i : ℤ) → Fits image p m → StartsAt p a base → is_byte_of image.segments a i ≡ true → is_some (byte_at (memory m) (place_at base i)) ≡ true
area-mapped image p m Loaded base i f starts e = image-there image p m base i f starts e
area-mapped image p m (In r) base i f starts e =
    let k = f.regions r base starts in
    let at = byte_place p r base i f.valid starts e in
    let (from, to) = in_extent-tells r i e in
    let low = k.is.low in let size = k.is.size in
    let a = place_at base i in
    let lies : lies_at a k.mapping ≡ true = and_from (nat_le k.mapping.low a) (nat_lt a (k.mapping.low + k.mapping.size))
    (le-leb k.mapping.low a (omega (arith, ints, at, from, low))) (lt-ltb a (k.mapping.low + k.mapping.size) (omega (arith, ints, at, to, low, size))) in
    is_mapped (memory m) a ∙ list_any_at (lies_at a) (mappings m) k.there.0 k.mapping k.there.1 (ap (lies_at a) k.there.2 ∙ lies)

module _ (image : Image) (p : Places) (stub : Stub) (r : Reply) (choice : Choice) (m : MachineState) (f : Fits image p m) (h : Facts stub r choice m) where
  abbrev block : Option Range
  block = block_of r choice m

  abbrev before : MachineState
  before = with_block block m

  abbrev pub filled : MachineState
  filled = filled_by r choice m

  pub good : GoodBlock m block
  good = good-block r choice m h.allowed

  pub before-fits : Fits image p before
  before-fits = block-fits image p m block good f

  pub filled-fits : (q : Places) → Fits image q before → Fits image q filled
  filled-fits q g = (let k = filled-is (filled_in choice) before in fits_kept image q before filled (record { mapped = k.mappings; stack = k.stack; fs = k.fs; gs = k.gs }) (k.bytes g.bytes) g)

  pub filled-registers : filled.registers ≡ m.registers
  filled-registers = (filled-is (filled_in choice) before).registers ∙ block-registers m block

  pub filled-fs : filled.fs ≡ m.fs
  filled-fs = (filled-is (filled_in choice) before).fs ∙ block-fs m block

  pub filled-gs : filled.gs ≡ m.gs
  filled-gs = (filled-is (filled_in choice) before).gs ∙ block-gs m block

  -- what is neither free nor the block's stays
  pub filled-stays : (c : ℕ) → is_freed_by stub r m c ≡ false → lies_in block c ≡ false → byte_at (memory filled) c ≡ byte_at (memory m) c
  filled-stays c bound off =
      filled-others (may_fill_by stub r choice m) (filled_in choice) before c h.fill (λ v e.
      elim (or_cases (is_freed_by stub r m c) (may_hold (is_zeroed r) block (c, v)) e) [
        | inl z ↦ both_ways (is_freed_by stub r m c) bound z
        | inr z ↦ may_hold-off (is_zeroed r) block c v off z
      ])
      ∙ block-byte m block c off

  -- what is free is mapped
  freed-mapped : (c : ℕ) → is_freed_by stub r m c ≡ true → is_some (byte_at (memory m) c) ≡ true
  freed-mapped c e =
      let parts = and_parts (not (list_any (is_in_span c) (exit_spans r m))) (list_any (is_in_span c) (spans_of stub m) || (has c m.stack && nat_lt c (m.registers.esp + frame_size stub))) e in
      elim (or_cases (list_any (is_in_span c) (spans_of stub m)) (has c m.stack && nat_lt c (m.registers.esp + frame_size stub)) parts.1) [
        | inl z ↦ written_mapped (memory m) c (span-written (spans_of stub m) (all-left (may_write_span m) (spans_of stub m) (exit_spans r m) h.may) z)
        | inr z ↦ is_mapped (memory m) c ∙ or_left (has c m.stack) (list_any (lies_at c) (map mapping_of m.ranges)) (and_parts (has c m.stack) (nat_lt c (m.registers.esp + frame_size stub)) z).0
      ]
    where
      span-written : (ss : List Span) → list_all (may_write_span m) ss ≡ true → list_any (is_in_span c) ss ≡ true → may_write (memory m) c ≡ true
      span-written [] all any = absurd (false≢true any)
      span-written (s ∷ ss) all any =
          let parts = and_parts (may_write_span m s) (list_all (may_write_span m) ss) all in
          elim (or_cases (is_in_span c s) (list_any (is_in_span c) ss) any) [
            | inl z ↦ (let i = in_span-is c s z in all_in_range (may_write (memory m)) s.low s.size c parts.0 i.low i.end)
            | inr z ↦ span-written ss parts.1 z
          ]

  -- a byte of the stack window below the arguments' end, by its offset
  stack-byte : (o : ℤ) (c : ℕ) → IsFrame p o m (frame_size stub) → (has c m.stack && nat_lt c (m.registers.esp + frame_size stub)) ≡ true
      → (i : ℤ) × (stack_bytes_below (o +ℤ pos (frame_size stub)) i ≡ true) × (c ≡ place_at p.stack i)
  stack-byte o c frame e =
      let a = and_parts (has c m.stack) (nat_lt c (m.registers.esp + frame_size stub)) e in
      let b = and_parts (nat_le m.stack.low c) (nat_lt c (end_of m.stack)) a.0 in
      let low = f.stack.low in let size = f.stack.size in let sum = frame.sum in
      let from = leb-true m.stack.low c b.0 in
      let to = ltb-true c (end_of m.stack) b.1 in
      let below = ltb-true c (m.registers.esp + frame_size stub) a.1 in
      let i = pos c -ℤ pos p.stack in
      let allowed = f.valid.allowed Stack p.stack refl in
      let top = allowed.high in
      let at : place_at p.stack i ≡ c = place_at-is p.stack i c (omega (arith, ints)) (omega (arith, ints, low, size, to, top)) in
      (i, and_from (is_in_extent Stack i) (int_lt i (o +ℤ pos (frame_size stub))) (extent-from Stack i (omega (arith, ints, low, from)) (omega (arith, ints, low, size, to))) (int_lt-from i (o +ℤ pos (frame_size stub)) (omega (arith, ints, below, sum))), sym at)

  -- the memory after the fills, but for the block
  abbrev pub without : ℕ → ℕ
  without y = cond (lies_in block y) (byte_in m y) (byte_in filled y)

  -- the same after the writes alone
  abbrev pub after_writes : ℕ → ℕ
  after_writes y = cond (list_any (is_in_span y) (spans_of stub m)) (without y) (byte_in m y)

  pub writes-stay : (y : ℕ) → (IsInOne y (spans_of stub m) → ⊥) → after_writes y ≡ byte_in m y
  writes-stay y off =
      elim (list_any (is_in_span y) (spans_of stub m)) as (λ b. list_any (is_in_span y) (spans_of stub m) ≡ b → cond b (without y) (byte_in m y) ≡ byte_in m y) [
        | true ↦ λ e. absurd (off (in_one-from y (spans_of stub m) e))
        | false ↦ λ e. refl
      ] refl

  -- of the rest only bytes of the stack window below the arguments' end change
  pub rest-stays : (o : ℤ) → IsFrame p o m (frame_size stub) → IsWritten p.stack (stack_bytes_below (o +ℤ pos (frame_size stub))) after_writes without
  rest-stays o frame y off =
      let spans = list_any (is_in_span y) (spans_of stub m) in
      let stack = has y m.stack && nat_lt y (m.registers.esp + frame_size stub) in
      elim spans as (λ b. spans ≡ b → without y ≡ cond b (without y) (byte_in m y)) [
        | true ↦ λ e. refl
        | false ↦ λ e.
            elim (lies_in block y) as (λ b. lies_in block y ≡ b → cond b (byte_in m y) (byte_in filled y) ≡ byte_in m y) [
              | true ↦ λ k. refl
              | false ↦ λ k.
                  let bound : is_freed_by stub r m y ≡ false = false_from_ne_true (is_freed_by stub r m y) (λ t.
                  let parts = and_parts (not (list_any (is_in_span y) (exit_spans r m))) (spans || stack) t in
                  elim (or_cases spans stack parts.1) [
                    | inl z ↦ both_ways spans e z
                    | inr z ↦ (let i = stack-byte o y frame z in off i.0 i.1 i.2)
                  ]) in
                  ap (λ w. unwrap_or w 0) (filled-stays y bound k)
            ] refl
      ] refl

  -- a zeroed block's bytes are 0
  pub zeroed-zero : (x : Range) (c : ℕ) → block ≡ Some x → (size : ℕ) → x.bytes ≡ replicate size zero → x.write ≡ true → is_zeroed r ≡ true → has c x ≡ true → byte_in filled c ≡ 0
  zeroed-zero x c is size zeros writes zeroed inside =
      let g : GoodBlock m (Some x) = subst (GoodBlock m) is good in
      let none : is_some (byte_at (memory m) c) ≡ false = false_from_ne_true (is_some (byte_at (memory m) c)) (λ e. both_ways (has c x) (mapped-off m (Some x) c g e) inside) in
      let more : memory before ≡ memory m ++ x ∷ [] = ap (λ b. memory (with_block b m)) is in
      let first : byte_of (memory before) c ≡ 0 =
      ap (λ rs. byte_of rs c) more ∙ ap (λ w. unwrap_or w 0) (own-byte (memory m) x c none inside) ∙ ap (λ bs. unwrap_or (slice_get bs (c - x.low)) 0) zeros ∙ zero-bytes size (c - x.low) in
      let writable : may_write (memory before) c ≡ true =
      ap (λ rs. may_write rs c) more ∙ is_written (memory m ++ x ∷ []) c ∙ ap (list_any (writes_at c)) (map-append mapping_of (memory m) (x ∷ []))
      ∙ any-last (writes_at c) (map mapping_of (memory m)) (mapping_of x) (and_from x.write (has c x) writes inside) in
      filled-zero (may_fill_by stub r choice m) (filled_in choice) before c before-fits.apart writable h.fill (λ v e.
      elim (or_cases (is_freed_by stub r m c) (may_hold (is_zeroed r) block (c, v)) e) [
        | inl z ↦ absurd (both_ways (is_some (byte_at (memory m) c)) none (freed-mapped c z))
        | inr z ↦ (let w : may_hold true (Some x) (c, v) ≡ true = sym (ap (λ t. may_hold t block (c, v)) zeroed ∙ ap (λ b. may_hold true b (c, v)) is) ∙ z in eqb-true v 0 (and_parts (has c x) (v == 0) w).1)
      ]) first
    where
      any-last : (test : Mapping → Bool) (ks : List Mapping) (k : Mapping) → test k ≡ true → list_any test (ks ++ k ∷ []) ≡ true
      any-last test [] k e = or_left (test k) false e
      any-last test (x ∷ xs) k e = or_right (test x) (list_any test (xs ++ k ∷ [])) (any-last test xs k e)

-- Each call is described by one of its next pairs, over every lawful domain.
use Rattle.std.proofs.Common.{◌≡◌, ℕ, zero, ◌+◌, ◌-◌, ◌*◌, ◌%◌, ◌^◌, ◌<◌, ◌≤◌, Bool, true, false, cond, List, [], ◌∷◌, Option, Some, None, refl, sym, ap, ◌∙◌, subst, arith, ℤ, pos, negsuc, neg_ℤ, ◌+ℤ◌, ◌-ℤ◌, ◌≤ℤ◌, ◌<ℤ◌, inl, w32, FitsSigned}
use Rattle.std.specs.Prelude.{All, Contains, nat_le, nat_lt}
use Rattle.std.specs.Int.{int_wrap}
use Rattle.std.specs.Ordering.{int_eq}
use Rattle.std.proofs.lemmas.Bool.{and_from, le-leb, lt-ltb}
use Rattle.std.proofs.lemmas.Int.{ints, SFits-int_wrap}
use Rattle.std.proofs.lemmas.List.{length-replicate}
use Rattle.bit_words.specs.declared.width.Width.TheVariants.{B32}
use Rattle.bit_words.specs.Width.{cut}
use Rattle.memory_map.specs.declared.choice.Choice.{Choice}
use Rattle.memory_map.specs.declared.registers.Regs.{Regs}
use Rattle.memory_map.specs.Image.{EXIT_PLACE, Image}
use Rattle.memory_map.specs.Range.{IsInUserSpace, Range, USER_END, end_of, has, may_write}
use Rattle.memory_map.specs.Registers.{register}
use Rattle.memory_map.specs.State.{MachineState, memory}
use Rattle.memory_map.proofs.Mappings.{is_in, written_same}
use Rattle.address_regions.specs.declared.region.Region.{Region}
use Rattle.address_regions.specs.declared.region.Region.TheVariants.{Stack, Fs, Gs, Block}
use Rattle.address_regions.specs.Extents.{high_of, low_of}
use Rattle.address_regions.specs.Places.{HasBase, IsValid, Places, place_at}
use Rattle.address_regions.proofs.RegionLaws.{byte_place, in_extent-tells}
use Rattle.address_regions.proofs.PlaceLaws.{place_at-add, place_at-is, place_at-wrapped}
use Rattle.domain_laws.specs.declared.reach.Reach.{Reach}
use Rattle.domain_laws.specs.declared.reach.Reach.TheVariants as reaches
use Rattle.domain_laws.specs.Laws.{IsLawful, Values}
use Rattle.domain_laws.specs.Reached.{IsReached, named}
use Rattle.partitioned_memory.specs.declared.area.Area.TheVariants.{In}
use Rattle.partitioned_memory.specs.Areas.{interval_at}
use Rattle.partitioned_memory.specs.Held.{PartsHeld, after_block, after_exact, after_forgetting, is_counted}
use Rattle.partitioned_memory.specs.Well.{HasCount, IsWell}
use Rattle.partitioned_memory.specs.Describes.{IsApart, IsDescribed, IsFresh, bytes_in, number_in}
use Rattle.partitioned_memory.proofs.BlockKept.{block-keeps}
use Rattle.partitioned_memory.proofs.Bytes.{byte-from}
use Rattle.partitioned_memory.proofs.CallsKept.{forget-keeps}
use Rattle.partitioned_memory.proofs.FactsKept.{beside-keeps, exact-keeps}
use Rattle.partitioned_memory.proofs.Spread.{spread-apart}
use Rattle.partitioned_memory.proofs.Orders.{int_eq-true}
use Rattle.stub_file.specs.declared.stub.Reply.{Reply}
use Rattle.stub_file.specs.declared.stub.Stub.{Stub}
use Rattle.x86_semantics.specs.Memory.{with_number}
use Rattle.x86_semantics.proofs.Storing.{IsStored, low-bytes, number_from, stored-is}
use Rattle.abstract_state.specs.declared.truth.Truth.TheVariants.{No}
use Rattle.abstract_state.specs.Describes.{Describes, Fits, byte_in, mappings}
use Rattle.abstract_state.specs.Expanding.{Expanded, Path}
use Rattle.abstract_state.specs.Flags.{unknown_flags}
use Rattle.abstract_state.specs.State.{IsWellState, Known}
use Rattle.abstract_state.proofs.BridgeBytes.{extent-from, number_in-is, place-later, region-bytes, written-in}
use Rattle.abstract_state.proofs.BridgeFits.{fits-apart, fits_kept}
use Rattle.import_semantics.specs.StubDoes.{LARGEST_BLOCK, argument, block_of, filled_in, frame_size, fresh_block, is_zeroed, result_of, return_address, stack_after, target_of, with_block}
use Rattle.import_stubs.specs.Stub.{return_value, stack_offset}
use Rattle.import_stubs.proofs.SoundBytes.{filled-is, writes-all}
use Rattle.import_stubs.proofs.SoundFrame.{IsFrame, stack_word-fits, word-stands}
use Rattle.import_stubs.proofs.SoundPlaces.{MayLie, fits-gained, gained, gains, keeps-bases, spread, valid}
use Rattle.import_stubs.proofs.SoundWrites.{IsAt}
use Rattle.import_stubs.proofs.SoundMemory.{Facts, GoodBlock, after_by, after_writes, area-mapped, before-fits, filled, filled-fits, filled-fs, filled-gs, good, lies_in, mapped-off, rest-stays, without, zeroed-zero}

-- ---- the offset of the stack pointer

word-bounds : (z : ℤ) → FitsSigned w32 z → (neg_ℤ (pos (2 ^ 31)) ≤ℤ z) × (z <ℤ pos (2 ^ 31))
word-bounds (pos n) f = (let k = f.sfits in (omega (arith, ints), omega (arith, ints, k)))
word-bounds (negsuc n) f = (let k = f.sfits in (omega (arith, ints, k), omega (arith, ints)))

pub record IsOffset (p : Places) (x : ℕ) (o : ℤ) : Type 0 where
  pub is : x ≡ place_at p.stack o
  pub least : neg_ℤ (pos (2 ^ 31)) ≤ℤ o
  pub most : o <ℤ pos (2 ^ 31)

pub offset-is : (reach : Reach) (p : Places) (x : ℕ) (o : ℤ) → IsReached reach p x → stack_offset reach ≡ Some o → IsOffset p x o
offset-is (reaches.Number low high) p x o r e = absurd (cc)
offset-is reaches.Anywhere p x o r e = absurd (cc)
offset-is (reaches.Place Fs low high) p x o r e = absurd (cc)
offset-is (reaches.Place Gs low high) p x o r e = absurd (cc)
offset-is (reaches.Place (Block site size zeroed) low high) p x o r e = absurd (cc)
offset-is (reaches.Place Stack low high) p x o r e =
    elim (int_eq low high) as (λ b. int_eq low high ≡ b → cond b (Some (int_wrap w32 low)) None ≡ Some o → IsOffset p x o) [
      | true ↦ λ k f.
          let one = int_eq-true low high k in
          let same : r.offset ≡ low = omega (arith, ints, one, r.from_low, r.to_high) in
          let wrapped : int_wrap w32 low ≡ o = cc in
          let base : r.base ≡ p.stack = r.has_base in
          let bounds = word-bounds (int_wrap w32 low) (SFits-int_wrap w32 low) in
          record {
            is = r.is ∙ ap (λ b. place_at b r.offset) base ∙ ap (place_at p.stack) same ∙ sym (place_at-wrapped p.stack low) ∙ ap (place_at p.stack) wrapped;
            least = subst (λ (z : ℤ). neg_ℤ (pos (2 ^ 31)) ≤ℤ z) wrapped bounds.0;
            most = subst (λ (z : ℤ). z <ℤ pos (2 ^ 31)) wrapped bounds.1;
          }
      | false ↦ λ k f. absurd (cc)
    ] refl e

-- ---- small facts

pub word-cut : (n : ℕ) → cut B32 n < 2 ^ 32
word-cut n = omega arith

pub no-causes : {X : Type 0} (c : X) (cs : List X) → c ∷ cs ≡ [] → ⊥
no-causes c cs e = cc

module _ {D : Type 0} (d : Values D) (l : IsLawful d) (image : Image) (p : Places) (o : ℤ) (s : Known D) (m : MachineState) (inside : All IsInUserSpace image.segments)
    (well : IsWellState d s) (describes : Describes d image s p m) (stub : Stub) (r : Reply) (choice : Choice) (facts : Facts stub r choice m) (frame : IsFrame p o m (frame_size stub)) where
  -- some next pair has the address of a state, and describes it by some places; the executable bytes are as they were
  pub record IsFound (x : Expanded D) (next : MachineState) : Type 0 where
    pub state : Known D
    pub places : Places
    pub pair : Contains x.next (next.eip, state)
    pub told : Describes d image state places next

  abbrev end : ℤ
  end = o +ℤ pos (frame_size stub)

  abbrev f : Fits image p m
  f = describes.fits

  abbrev pub At : Path D → (ℕ → ℕ) → Type 0
  At q c = IsAt d l image p o s m inside well describes frame.sum q c

  abbrev bytes : MachineState
  bytes = filled image p stub r choice m f facts

  abbrev g : ℕ → ℕ
  g = without image p stub r choice m f facts

  abbrev block : Option Range
  block = block_of r choice m

  -- a state after a call: registers of the state before, but for four, and no note
  abbrev pub state_of : Regs D → PartsHeld D → D → ℤ → Known D
  state_of rs h v top = record {
    regs = record rs { eax = v; ecx = d.any; edx = d.any; esp = d.place Stack top };
    flags = unknown_flags No;
    note = None;
    parts = h;
  }

  abbrev Moves : Places → Type 0
  Moves q = (u : D) (y : ℕ) → HasCount s.parts.blocks (named (d.reach u)) → d.stands u p y → d.stands u q y

  -- what is left to know of a next pair
  record IsNext (q : Places) (n : MachineState) (h : PartsHeld D) (v : D) (top : ℤ) : Type 0 where
    pub fits : Fits image q n
    pub fs : n.fs ≡ m.fs
    pub gs : n.gs ≡ m.gs
    pub moves : Moves q
    pub value : d.stands v q (result_of r choice)
    pub result : result_of r choice < 2 ^ 32
    pub stack : d.stands (d.place Stack top) q (stack_after stub r m.registers.esp)
    pub pointer : stack_after stub r m.registers.esp < 2 ^ 32
    pub parts : IsDescribed d image.segments image.unset q h (byte_in n)

  found-next : (q : Places) (n : MachineState) (rs : Regs D) (h : PartsHeld D) (v : D) (top : ℤ) (a : ℕ) (x : Expanded D) → Contains x.next (a, state_of rs h v top) → target_of r m ≡ a → target_of r m < 2 ^ 32 → rs ≡ s.regs
      → IsNext q n h v top → IsFound x (after_by stub r choice m n)
  unfolding register
  found-next q n rs h v top a x held to less same k =
      let next = after_by stub r choice m n in
      let w = describes.words in
      let g' = describes.registers in
      let any : (y : ℕ) → d.stands d.any q y = λ y. l.any_stands q y k.fits.valid in
      let old : (u : D) (y : ℕ) → HasCount s.parts.blocks (named (d.reach u)) → d.stands u p y → d.stands u q y = k.moves in
      let wr = well.registers in
      record {
        state = state_of rs h v top;
        places = q;
        pair = subst (λ (z : ℕ). Contains x.next (z, state_of rs h v top)) (sym to) held;
        told = record {
          fits = fits_kept image q n next (record { mapped = refl; stack = refl; fs = refl; gs = refl }) k.fits.bytes k.fits;
          words = record {
            eax = k.result;
            ecx = word-cut choice.ecx;
            edx = word-cut choice.edx;
            ebx = w.ebx;
            esp = k.pointer;
            ebp = w.ebp;
            esi = w.esi;
            edi = w.edi;
            eip = less;
            fs = omega (arith, k.fs, w.fs);
            gs = omega (arith, k.gs, w.gs);
          };
          registers = record {
            eax = k.value;
            ecx = any (cut B32 choice.ecx);
            edx = any (cut B32 choice.edx);
            ebx = subst (λ (t : Regs D). d.stands t.ebx q m.registers.ebx) (sym same) (old s.regs.ebx m.registers.ebx (wr 3).counted g'.ebx);
            esp = k.stack;
            ebp = subst (λ (t : Regs D). d.stands t.ebp q m.registers.ebp) (sym same) (old s.regs.ebp m.registers.ebp (wr 5).counted g'.ebp);
            esi = subst (λ (t : Regs D). d.stands t.esi q m.registers.esi) (sym same) (old s.regs.esi m.registers.esi (wr 6).counted g'.esi);
            edi = subst (λ (t : Regs D). d.stands t.edi q m.registers.edi) (sym same) (old s.regs.edi m.registers.edi (wr 7).counted g'.edi);
          };
          flags = record { carry = tt; parity = tt; adjust = tt; zero = tt; sign = tt; overflow = tt; direction = refl };
          note = tt;
          parts = k.parts;
        };
      }

  -- ---- the memory that is left, but for a block

  -- parts after forgetting describe it
  pub left : (q : Path D) → At q (after_writes image p stub r choice m f facts) → IsDescribed d image.segments image.unset p (after_forgetting end q.state.parts) g
  left q h = forget-keeps d image.segments image.unset p _ g q.state.parts end (fits-apart image p m f) (rest-stays image p stub r choice m f facts o frame) h.described

  own-fits : Fits image p bytes
  own-fits = filled-fits image p stub r choice m f facts p (before-fits image p stub r choice m f facts)

  -- where there is no block, that is all
  pub whole : block ≡ None → (h : PartsHeld D) → IsDescribed d image.segments image.unset p h g → IsDescribed d image.segments image.unset p h (byte_in bytes)
  whole none h k = beside-keeps d image.segments image.unset p g (byte_in bytes) h (λ a base i _ _. sym (ap (λ b. cond (lies_in b (place_at base i)) (byte_in m (place_at base i)) (byte_in bytes (place_at base i))) none)) k

  -- a block lies beside every area
  pub beside : (h : PartsHeld D) → IsDescribed d image.segments image.unset p h g → IsDescribed d image.segments image.unset p h (byte_in bytes)
  beside h k = beside-keeps d image.segments image.unset p g (byte_in bytes) h (λ a base i starts byte.
      let off : lies_in block (place_at base i) ≡ false = mapped-off m block (place_at base i) (good image p stub r choice m f facts) (area-mapped image p m a base i f starts byte) in
      sym (ap (λ b. cond b (byte_in m (place_at base i)) (byte_in bytes (place_at base i))) off)) k

  esp-at : place_at p.stack o ≡ m.registers.esp
  esp-at = place_at-is p.stack o m.registers.esp (sym frame.sum) describes.words.esp

  address-fits : return_address m < 2 ^ 32
  address-fits = stack_word-fits 0 m f.inside f.bytes

  pub return-is : (site : ℕ) → d.number_of (return_value d image o s) ≡ Some site → return_address m ≡ site
  return-is site e = l.number_of_alone (return_value d image o s) site p (return_address m) f.valid e (word-stands d l image p o 0 s m describes frame.sum)

  -- ---- back to the caller

  abbrev top : ℤ
  top = o +ℤ pos (4 + stub.cleans)

  abbrev after : ℕ
  after = cut B32 (m.registers.esp + 4 + stub.cleans)

  top-at : place_at p.stack top ≡ after
  top-at =
      let n = 4 + stub.cleans in
      let sum : m.registers.esp + n ≡ m.registers.esp + 4 + stub.cleans = omega arith in
      place_at-add p.stack n o ∙ ap (λ z. (z + n) % 2 ^ 32) esp-at ∙ ap (λ z. z % 2 ^ 32) sum

  -- the call goes back to its caller
  pub record IsReturn : Type 0 where
    pub target : target_of r m ≡ return_address m
    pub stack : stack_after stub r m.registers.esp ≡ after

  target-less : (a : ℕ) → target_of r m ≡ a → a < 2 ^ 32 → target_of r m < 2 ^ 32
  target-less a e less = subst (λ (z : ℕ). z < 2 ^ 32) (sym e) less

  top-stands : (q : Places) → Fits image q bytes → q.stack ≡ p.stack → IsReturn → d.stands (d.place Stack top) q (stack_after stub r m.registers.esp)
  top-stands q k same back =
      let is : place_at p.stack top ≡ stack_after stub r m.registers.esp = top-at ∙ sym back.stack in
      subst (d.stands (d.place Stack top) q) is (l.place_stands Stack top p.stack q k.valid (sym same))

  top-less : IsReturn → stack_after stub r m.registers.esp < 2 ^ 32
  top-less back = target-stack (stack_after stub r m.registers.esp) back.stack
    where
      target-stack : (z : ℕ) → z ≡ after → z < 2 ^ 32
      target-stack z e = (let less = word-cut (m.registers.esp + 4 + stub.cleans) in omega (arith, e, less))

  -- with a value, and no block that is known
  pub plain-found : (site : ℕ) (rs : Regs D) (h : PartsHeld D) (v : D) (x : Expanded D) → Contains x.next (site, state_of rs h v top) → return_address m ≡ site → IsReturn → rs ≡ s.regs
      → d.stands v p (result_of r choice) → result_of r choice < 2 ^ 32 → IsDescribed d image.segments image.unset p h (byte_in bytes) → IsFound x (after_by stub r choice m bytes)
  plain-found site rs h v x held is back same value less parts =
      found-next p bytes rs h v top site x held (back.target ∙ is) (target-less (return_address m) back.target address-fits) same (record {
        fits = own-fits;
        fs = filled-fs image p stub r choice m f facts;
        gs = filled-gs image p stub r choice m f facts;
        moves = λ u y counted k. k;
        value = value;
        result = less;
        stack = top-stands p own-fits refl back;
        pointer = top-less back;
        parts = parts;
      })

  -- ---- with a new block

  module _ (site size : ℕ) (zeroed : Bool) (h : PartsHeld D) (held-well : IsWell d h) (blocks : h.blocks ≡ s.parts.blocks) (is : block ≡ Some (fresh_block choice.base size)) (kind : is_zeroed r ≡ zeroed)
      (parts : IsDescribed d image.segments image.unset p h g) where
    abbrev R : Region
    R = Block site size zeroed

    abbrev base : ℕ
    base = choice.base

    abbrev had : Bool
    had = is_counted R h.blocks

    abbrev Q : Places
    Q = gained R had base p

    abbrev new : Range
    new = fresh_block base size

    lies : MayLie m new
    lies = (let k : GoodBlock m (Some new) = subst (GoodBlock m) is (good image p stub r choice m f facts) in k.0)

    end-at : end_of new ≡ base + size
    end-at = ap (λ n. base + n) (length-replicate size zero)

    pub small : size ≤ LARGEST_BLOCK
    small = (let k = lies.size in let e = end-at in omega (arith, k, e))

    fresh-fits : Fits image Q bytes
    fresh-fits = filled-fits image p stub r choice m f facts Q (subst (λ (b : Option Range). Fits image Q (with_block b m)) (sym is) (fits-gained site size zeroed had base p image m lies f))

    has-base : HasBase Q R base
    has-base = ((gains site size zeroed had base p).own base).1 (inl refl)

    valid-now : IsValid Q
    valid-now = valid site size zeroed had base p image m lies f

    apart-now : IsApart image.segments Q
    apart-now = spread-apart image.segments Q valid-now inside (spread site size zeroed had base p image m lies f)

    in-block : (y : ℕ) → lies_in block y ≡ has y new
    in-block y = ap (λ b. lies_in b y) is

    fresh : IsFresh R base g (byte_in bytes)
    fresh = record {
      others = λ y off.
          elim (lies_in block y) as (λ b. lies_in block y ≡ b → byte_in bytes y ≡ cond b (byte_in m y) (byte_in bytes y)) [
            | true ↦ λ e.
                let i = is_in new y (sym (in-block y) ∙ e) in
                let low = i.low in let high = i.end in let last = end-at in let user = lies.user.below in
                let k = pos y -ℤ pos base in
                absurd (off k (extent-from R k (omega (arith, ints, low)) (omega (arith, ints, high, last))) (sym (place_at-is base k y (omega (arith, ints)) (omega (arith, high, user)))))
            | false ↦ λ e. refl
          ] refl;
      zeroed = λ e i byte.
          let at = byte_place Q R base i valid-now has-base byte in
          let (from, to) = in_extent-tells R i byte in
          let last = end-at in
          let c = place_at base i in
          let there : has c new ≡ true = and_from (nat_le base c) (nat_lt c (end_of new)) (le-leb base c (omega (arith, ints, at, from))) (lt-ltb c (end_of new) (omega (arith, ints, at, to, last))) in
          zeroed-zero image p stub r choice m f facts new c is size refl refl (kind ∙ e) there;
    }

    pub block-found : (rs : Regs D) (x : Expanded D) → Contains x.next (site, state_of rs (after_block R h) (d.place R (pos 0)) top) → return_address m ≡ site → IsReturn → rs ≡ s.regs → result_of r choice ≡ base → IsFound x (after_by stub r choice m bytes)
    block-found rs x held to back same result =
        let below = lies.user.below in let last = end-at in
        let less : base < 2 ^ 32 = omega (arith, below, last) in
        let at : place_at base (pos 0) ≡ result_of r choice = place_at-is base (pos 0) base (omega (arith, ints)) less ∙ sym result in
        found-next Q bytes rs (after_block R h) (d.place R (pos 0)) top site x held (back.target ∙ to) (target-less (return_address m) back.target address-fits) same (record {
          fits = fresh-fits;
          fs = filled-fs image p stub r choice m f facts;
          gs = filled-gs image p stub r choice m f facts;
          moves = λ u y counted k. l.moves u p Q y f.valid valid-now (gains site size zeroed had base p).windows (keeps-bases site size zeroed had base p s.parts.blocks (named (d.reach u)) (ap (is_counted R) blocks) counted) k;
          value = subst (d.stands (d.place R (pos 0)) Q) at (l.place_stands R (pos 0) base Q valid-now has-base);
          result = target-result (result_of r choice) result less;
          stack = top-stands Q fresh-fits refl back;
          pointer = top-less back;
          parts = block-keeps d l image.segments image.unset p Q g (byte_in bytes) h R base refl held-well f.valid valid-now (gains site size zeroed had base p) apart-now fresh parts;
        })
      where
        target-result : (z : ℕ) → z ≡ base → base < 2 ^ 32 → z < 2 ^ 32
        target-result z e k = omega (arith, e, k)

  -- ---- into a function

  abbrev below : ℤ
  below = o -ℤ pos 4

  abbrev exit_at : ℕ
  exit_at = m.registers.esp - 4

  abbrev entered : MachineState
  entered = with_number 4 exit_at EXIT_PLACE bytes

  -- the call enters a function, with the exit place below the stack pointer
  pub record IsEntry (i : ℕ) : Type 0 where
    pub none : block ≡ None
    pub target : target_of r m ≡ argument i m
    pub stack : stack_after stub r m.registers.esp ≡ exit_at
    pub writes : (c : ℕ) → exit_at ≤ c → c < exit_at + 4 → may_write (memory m) c ≡ true
    pub result : result_of r choice < 2 ^ 32

  module _ (i : ℕ) (entry : IsEntry i) (least : low_of Stack ≤ℤ below) where
    sum-below : pos exit_at ≡ pos p.stack +ℤ below
    sum-below = (let sum = frame.sum in let k = f.valid.allowed Stack p.stack refl in let low = k.low in omega (arith, ints, sum, low, least))

    exit-less : exit_at + 4 ≤ USER_END
    exit-less = (let sum = sum-below in let k = f.valid.allowed Stack p.stack refl in let high = k.high in let last = frame.end in omega (arith, ints, sum, high, last))

    below-at : place_at p.stack below ≡ exit_at
    below-at = place_at-is p.stack below exit_at (sym sum-below) (omega (arith, exit-less))

    same-mappings : mappings bytes ≡ mappings m
    same-mappings = (filled-is (filled_in choice) (with_block block m)).mappings ∙ ap (λ b. mappings (with_block b m)) entry.none

    stored : IsStored 4 exit_at EXIT_PLACE bytes entered
    stored =
        stored-is 4 exit_at EXIT_PLACE bytes own-fits.inside own-fits.apart
        (writes-all (memory bytes) 4 exit_at own-fits.inside (λ c from to. written_same (memory bytes) (memory m) c same-mappings ∙ entry.writes c from to))

    entered-fits : Fits image p entered
    entered-fits = fits_kept image p bytes entered (record { mapped = stored.mappings; stack = stored.stack; fs = stored.fs; gs = stored.gs }) (stored.bytes own-fits.bytes) own-fits

    last-below : (below +ℤ pos 4) ≤ℤ high_of Stack
    last-below = (let last = frame.end in omega (arith, ints, last))

    exit-number : number_in (byte_in entered) p.stack below B32 ≡ EXIT_PLACE
    exit-number =
        let at = below-at in let less = exit-less in
        number_in-is (byte_in entered) p.stack below B32 (omega (arith, at, less)) ∙ ap (number_from (byte_in entered) 4) at ∙ stored.number ∙ low-bytes B32 EXIT_PLACE

    exit-parts : (h : PartsHeld D) → IsDescribed d image.segments image.unset p h g → IsDescribed d image.segments image.unset p (after_exact d (In Stack) below B32 (d.number EXIT_PLACE) h) (byte_in entered)
    exit-parts h k =
        exact-keeps d image.segments image.unset p (byte_in bytes) (byte_in entered) h (In Stack) p.stack below B32 (d.number EXIT_PLACE) (fits-apart image p m f) refl
        (region-bytes image.segments Stack below (below +ℤ pos 4) least last-below) tt
        (written-in p.stack (bytes_in (interval_at (In Stack) below (pos 4))) 4 exit_at EXIT_PLACE bytes entered stored (λ j less. record {
          offset = below +ℤ pos j;
          passes = byte-from (interval_at (In Stack) below (pos 4)) (In Stack) (below +ℤ pos j) (record { area = refl; low = omega (arith, ints); high = omega (arith, ints, less) });
          place = (let at = below-at in let top = exit-less in sym (place-later p.stack below j (omega (arith, at, top, less)) ∙ ap (λ z. z + j) at));
        }))
        (subst (d.stands (d.number EXIT_PLACE) p) (sym exit-number) (l.number_stands EXIT_PLACE p f.valid)) (whole entry.none h k)

    pub entry-found : (a : ℕ) (rs : Regs D) (h : PartsHeld D) (x : Expanded D) → Contains x.next (a, state_of rs (after_exact d (In Stack) below B32 (d.number EXIT_PLACE) h) d.any below) → argument i m ≡ a → rs ≡ s.regs
        → IsDescribed d image.segments image.unset p h g → IsFound x (after_by stub r choice m entered)
    entry-found a rs h x held is same k =
        let fits-now = entered-fits in
        let pointer : exit_at < 2 ^ 32 = (let less = exit-less in omega (arith, less)) in
        found-next p entered rs (after_exact d (In Stack) below B32 (d.number EXIT_PLACE) h) d.any below a x held (entry.target ∙ is) (target-less (argument i m) entry.target (stack_word-fits (4 + 4 * i) m f.inside f.bytes)) same (record {
          fits = fits-now;
          fs = stored.fs ∙ filled-fs image p stub r choice m f facts;
          gs = stored.gs ∙ filled-gs image p stub r choice m f facts;
          moves = λ u y counted z. z;
          value = l.any_stands p (result_of r choice) f.valid;
          result = entry.result;
          stack = subst (d.stands (d.place Stack below) p) (below-at ∙ sym entry.stack) (l.place_stands Stack below p.stack p f.valid refl);
          pointer = pointer-less (stack_after stub r m.registers.esp) entry.stack pointer;
          parts = exit-parts h k;
        })
      where
        pointer-less : (z : ℕ) → z ≡ exit_at → exit_at < 2 ^ 32 → z < 2 ^ 32
        pointer-less z e k = omega (arith, e, k)

-- Loads and stores of a path stand for those of the machine, over every lawful domain.
use Rattle.std.proofs.Common.{◌≡◌, ℕ, ◌+◌, ◌-◌, ◌^◌, ◌<◌, ◌≤◌, ◌==◌, Bool, true, false, cond, List, [], ◌∷◌, Option, Some, None, refl, sym, ap, ◌∙◌, subst, arith, ℤ, pos, neg_ℤ, ◌+ℤ◌, ◌-ℤ◌, ◌≤ℤ◌, ◌<ℤ◌, inl, inr}
use Rattle.std.specs.Prelude.{⊤, ◌&&◌, All, Contains, is_some, unwrap_or, nat_le, nat_lt, int_le, int_lt, option_map, find}
use Rattle.std.specs.Ordering.{int_eq}
use Rattle.std.proofs.lemmas.Bool.{and_cases, and_parts, both_ways, eqb-true, leb-true, ltb-true, or_cases}
use Rattle.std.proofs.lemmas.Int.{ints}
use Rattle.bit_words.specs.declared.width.Width.{Width}
use Rattle.bit_words.specs.declared.width.Width.TheVariants.{B8, B16, B32}
use Rattle.bit_words.specs.Width.{bits_of, bytes_of}
use Rattle.memory_map.specs.Image.{Image}
use Rattle.memory_map.specs.Range.{Range, USER_END, USER_LOW, byte_at, may_write, may_write_any, may_write_each, maps_all, IsInUserSpace}
use Rattle.memory_map.specs.Spans.{runs_of}
use Rattle.memory_map.specs.State.{Flags, HasWords, MachineState, memory}
use Rattle.memory_map.proofs.Mappings.{mapped_inside, written_mapped}
use Rattle.memory_map.proofs.RunBytes.{IsInOne, all_from_each, all_in_range, none_in_range, run_has, run_passes}
use Rattle.x86_semantics.specs.Memory.{word_at, stored as stored_of}
use Rattle.x86_semantics.specs.Operands.{Ended, Next, Faulted, loading as loading_of, on_stored, on_word, storing as storing_of}
use Rattle.x86_semantics.proofs.Storing.{IsStored, IsWordLoaded, IsWordStored, word-loaded, word-stored}
use Rattle.address_regions.specs.declared.region.Region.{Region}
use Rattle.address_regions.specs.declared.region.Region.TheVariants.{Stack, Fs, Gs, Block}
use Rattle.address_regions.specs.Extents.{block_of, high_of, low_of}
use Rattle.address_regions.specs.Places.{HasBase, IsAllowed, Places, place_at}
use Rattle.address_regions.proofs.PlaceLaws.{place_at-is}
use Rattle.domain_laws.specs.declared.reach.Reach.{Reach}
use Rattle.domain_laws.specs.declared.reach.Reach.TheVariants.{Number, Place, Anywhere}
use Rattle.domain_laws.specs.Laws.{IsLawful, Values}
use Rattle.domain_laws.specs.Reached.{IsReached, named}
use Rattle.partitioned_memory.specs.declared.area.Area.{Area}
use Rattle.partitioned_memory.specs.declared.area.Area.TheVariants.{Image as Loaded, In}
use Rattle.partitioned_memory.specs.declared.fact.Fact.{Fact}
use Rattle.partitioned_memory.specs.declared.fact.Counted.{Counted}
use Rattle.partitioned_memory.specs.Areas.{IsInside, block_in, interval_at, interval_between, interval_to, same_area}
use Rattle.partitioned_memory.specs.Lists.{Every}
use Rattle.partitioned_memory.specs.Held.{PartsHeld, after_exact, after_inside, found, is_at, known_byte, known_number, value_read}
use Rattle.partitioned_memory.specs.Well.{HasCount, IsWellFact, MayHold}
use Rattle.partitioned_memory.specs.Describes.{AreBytes, StartsAt, bytes_in, number_in}
use Rattle.partitioned_memory.proofs.Bytes.{IsWrite, byte-from, byte-is}
use Rattle.partitioned_memory.proofs.FactsKept.{exact-keeps, inside-keeps}
use Rattle.partitioned_memory.proofs.CallsKept.{read-stands}
use Rattle.partitioned_memory.proofs.Orders.{int_le-true, int_lt-false, same_area-refl, int_eq-true}
use Rattle.flow_log.specs.declared.cause.Cause.{Cause}
use Rattle.flow_log.specs.declared.cause.Cause.TheVariants as causes
use Rattle.abstract_state.specs.declared.note.Note.{Note}
use Rattle.abstract_state.specs.declared.note.Note.TheVariants.{Word}
use Rattle.abstract_state.specs.declared.stored.Stored.TheVariants.{Done, Faults, Stopped}
use Rattle.abstract_state.specs.Accessing.{StoredPath, after_load, after_store, cause_outside, with_region_parts, is_in_fault_zone, region_parts, stored, stored_among, stored_at, stored_by, stored_in, storing, with_spans, with_word, loaded, loaded_at, loaded_by, loaded_in, loading, lies_in_extent, touches_fault_zone, value_at}
use Rattle.abstract_state.specs.Describes.{Describes, byte_in}
use Rattle.abstract_state.specs.Expanding.{Expanded, Path, Written, stopped}
use Rattle.abstract_state.specs.Flags.{FlagsStand}
use Rattle.abstract_state.specs.Notes.{is_in_bytes, note_unless}
use Rattle.abstract_state.specs.Registers.{RegistersStand}
use Rattle.memory_map.specs.Registers.{register}
use Rattle.memory_map.specs.declared.registers.Regs.{Regs}
use Rattle.abstract_state.specs.State.{AreSmall, IsWellState, Known}
use Rattle.abstract_state.proofs.BridgeBytes.{image-bytes, number_in-is, place-later, region-bytes, written-in}
use Rattle.abstract_state.proofs.BridgeFits.{fits-apart, fits_kept, image-written, segments-inside}
use Rattle.abstract_state.proofs.Keeping.{exact-well, inside-blocks, inside-well}
use Rattle.abstract_state.proofs.BridgeParts.{AreKept, IsNoteOf, note-stays, note-well, spans-keep, unless-note, word-stays}

-- ---- where an access lies

-- an access whose bytes are all mapped lies in user space
pub record IsAccess (a count : ℕ) : Type 0 where
  pub low : USER_LOW ≤ a
  pub end : a + count ≤ USER_END

access-is : (rs : List Range) (count a : ℕ) → 0 < count → All IsInUserSpace rs → ((i : ℕ) → i < count → is_some (byte_at rs (a + i)) ≡ true) → IsAccess a count
access-is rs count a some inside mapped =
    let first = mapped_inside rs (a + 0) (mapped 0 some) inside in
    let final = mapped_inside rs (a + (count - 1)) (mapped (count - 1) (omega arith)) inside in
    record { low = omega (arith, first.0); end = omega (arith, final.1) }

some-bytes : (w : Width) → 0 < bytes_of w
some-bytes B8 = omega arith
some-bytes B16 = omega arith
some-bytes B32 = omega arith

few-bytes : (w : Width) → bytes_of w ≤ 4
few-bytes B8 = omega arith
few-bytes B16 = omega arith
few-bytes B32 = omega arith

zone-off : (a count : ℕ) → IsAccess a count → touches_fault_zone a count ≡ true → ⊥
zone-off a count k e =
    elim (or_cases (nat_lt a USER_LOW) (nat_lt USER_END (a + count)) e) [
      | inl x ↦ omega (arith, k.low, ltb-true a USER_LOW x)
      | inr x ↦ omega (arith, k.end, ltb-true USER_END (a + count) x)
    ]

module _ {D : Type 0} (d : Values D) (l : IsLawful d) (image : Image) (p : Places) (blocks : List Counted) where
  -- a value stands for a number of a width, and the block region that it names has a count
  pub record Stands (w : Width) (v : D) (x : ℕ) : Type 0 where
    pub stands : d.stands v p x
    pub fits : x < 2 ^ bits_of w
    pub counted : HasCount blocks (named (d.reach v))

  -- a path on the way through an instruction, and the machine's state there
  pub record Holds (q : Path D) (m : MachineState) : Type 0 where
    pub well : IsWellState d q.state
    pub describes : Describes d image q.state p m
    pub blocks_same : q.state.parts.blocks ≡ blocks

  -- some next pair has the address of a machine state, and describes it
  pub record IsFound (x : Expanded D) (n : MachineState) : Type 0 where
    pub state : Known D
    pub pair : Contains x.next (n.eip, state)
    pub well : IsWellState d state
    pub describes : Describes d image state p n

  -- an expansion stands for how an instruction ends: where it leaves nothing open, the next state is found
  abbrev pub Ends : Expanded D → Ended → Type 0
  Ends x (Next n) = x.causes ≡ [] → IsFound x n
  Ends x (Faulted kind m) = ⊤

  pub stopped_ends : (c : Cause) (ws : List Written) (e : Ended) → Ends (stopped c ws) e
  stopped_ends c ws e = elim e as (λ t. Ends (stopped c ws) t) [ Next n ↦ λ none. absurd (cc) | Faulted kind m ↦ tt ]

  -- ---- values

  pub any_known : (w : Width) (x : ℕ) (q : Path D) (m : MachineState) → Holds q m → x < 2 ^ bits_of w → Stands w d.any x
  any_known w x q m h fits = record { stands = l.any_stands p x h.describes.fits.valid; fits = fits; counted = subst (HasCount blocks) (sym l.any_names) tt }

  pub number_known : (w : Width) (n : ℕ) (q : Path D) (m : MachineState) → Holds q m → n < 2 ^ bits_of w → Stands w (d.number n) n
  number_known w n q m h fits = record { stands = l.number_stands n p h.describes.fits.valid; fits = fits; counted = subst (HasCount blocks) (sym (l.number_names n)) tt }

  -- what is known at a place may be held
  found-counted : (a : Area) (low : ℤ) (w : Width) (bs : List Counted) (facts : List (Fact D)) (v : D) → found a low w facts ≡ Some v → Every (IsWellFact d bs) facts → HasCount bs (named (d.reach v))
  found-counted a low w bs [] v e h = absurd (cc)
  found-counted a low w bs (f ∷ fs) v e h =
      elim (is_at a low w f) as (λ t. is_at a low w f ≡ t → option_map (λ g. g.value) (cond t (Some f) (find (is_at a low w) fs)) ≡ Some v → HasCount bs (named (d.reach v))) [
        | true ↦ λ k q. let same : f.value ≡ v = cc in subst (λ z. HasCount bs (named (d.reach z))) same h.0.holds.counted
        | false ↦ λ k q. found-counted a low w bs fs v q h.1
      ] refl e

  value-counted : (a : Area) (low : ℤ) (w : Width) (s : Known D) → IsWellState d s → s.parts.blocks ≡ blocks → HasCount blocks (named (d.reach (value_at d image a low w s)))
  value-counted a low w s well same =
      let known = known_number (known_byte image.segments image.unset s.parts.dirty a) low w in
      elim (found a low w s.parts.facts) as (λ o. found a low w s.parts.facts ≡ o → HasCount blocks (named (d.reach (value_read d o known)))) [
        | Some v ↦ λ e. subst (λ bs. HasCount bs (named (d.reach v))) same (found-counted a low w s.parts.blocks s.parts.facts v e well.parts.facts)
        | None ↦ λ e. elim known as (λ o. HasCount blocks (named (d.reach (value_read d None o)))) [
          | Some n ↦ subst (HasCount blocks) (sym (l.number_names n)) tt
          | None ↦ subst (HasCount blocks) (sym l.any_names) tt
        ]
      ] refl

  -- ---- a load

  value-known : (q : Path D) (m : MachineState) (ar : Area) (base : ℕ) (low : ℤ) (w : Width) (x : ℕ) → Holds q m → IsWordLoaded w (place_at base low) x m
      → IsAccess (place_at base low) (bytes_of w) → StartsAt p ar base → AreBytes image.segments (interval_at ar low (pos (bytes_of w)))
      → Stands w (value_at d image ar low w q.state) x
  value-known q m ar base low w x h k access starts bytes =
      let number : number_in (byte_in m) base low w ≡ x = number_in-is (byte_in m) base low w (omega (arith, access.end)) ∙ k.number in
      record {
        stands = subst (d.stands (value_at d image ar low w q.state) p) number (read-stands d l image.segments image.unset p (byte_in m) q.state.parts ar base low w h.describes.fits.valid starts bytes h.describes.parts);
        fits = k.fits;
        counted = value-counted ar low w q.state h.well h.blocks_same;
      }

  -- a load that gives a value gives one that stands for the word
  record Gives (w : Width) (x : ℕ) (o : Option D) : Type 0 where
    pub value : D
    pub is : o ≡ Some value
    pub stands : Stands w value x

  any-given : (w : Width) (x : ℕ) (q : Path D) (m : MachineState) → Holds q m → x < 2 ^ bits_of w → Gives w x (Some d.any)
  any-given w x q m h fits = record { value = d.any; is = refl; stands = any_known w x q m h fits }

  given-at : (q : Path D) (m : MachineState) (w : Width) (a x : ℕ) → Holds q m → IsWordLoaded w a x m → IsAccess a (bytes_of w) → Gives w x (loaded_at d image a w q.state)
  given-at q m w a x h k access =
      elim (touches_fault_zone a (bytes_of w)) as (λ b. touches_fault_zone a (bytes_of w) ≡ b → Gives w x (cond b None (cond (maps_all image.segments a (bytes_of w)) (Some (value_at d image Loaded (pos a) w q.state)) (Some d.any)))) [
        | true ↦ λ e. absurd (zone-off a (bytes_of w) access e)
        | false ↦ λ e. elim (maps_all image.segments a (bytes_of w)) as (λ b. maps_all image.segments a (bytes_of w) ≡ b → Gives w x (cond b (Some (value_at d image Loaded (pos a) w q.state)) (Some d.any))) [
          | true ↦ λ f.
              let at : place_at 0 (pos a) ≡ a = place_at-is 0 (pos a) a (omega (arith, ints)) (omega (arith, access.end, some-bytes w)) in
              record {
                value = value_at d image Loaded (pos a) w q.state;
                is = refl;
                stands = value-known q m Loaded 0 (pos a) w x h (subst (λ z. IsWordLoaded w z x m) (sym at) k) (subst (λ z. IsAccess z (bytes_of w)) (sym at) access) refl (image-bytes image.segments a (bytes_of w) f);
              }
          | false ↦ λ f. any-given w x q m h k.fits
        ] refl
      ] refl

  given-in : (q : Path D) (m : MachineState) (r : Region) (base : ℕ) (low : ℤ) (w : Width) (x : ℕ) → Holds q m → IsWordLoaded w (place_at base low) x m → IsAccess (place_at base low) (bytes_of w) → HasBase p r base
      → Stands w (loaded_in d image r low w q.state) x
  given-in q m r base low w x h k access based =
      elim (lies_in_extent r low (low +ℤ pos (bytes_of w))) as (λ b. lies_in_extent r low (low +ℤ pos (bytes_of w)) ≡ b → Stands w (cond b (value_at d image (In r) low w q.state) d.any) x) [
        | true ↦ λ e.
            let parts = and_parts (int_le (low_of r) low) (int_le (low +ℤ pos (bytes_of w)) (high_of r)) e in
            value-known q m (In r) base low w x h k access based (region-bytes image.segments r low (low +ℤ pos (bytes_of w)) (int_le-true (low_of r) low parts.0) (int_le-true (low +ℤ pos (bytes_of w)) (high_of r) parts.1))
        | false ↦ λ e. any_known w x q m h k.fits
      ] refl

  given-by : (q : Path D) (m : MachineState) (reach : Reach) (w : Width) (a x : ℕ) → Holds q m → IsWordLoaded w a x m → IsAccess a (bytes_of w) → IsReached reach p a → Gives w x (loaded_by d image reach w q.state)
  given-by q m (Number low high) w a x h k access reached =
      elim (low == high) as (λ b. (low == high) ≡ b → Gives w x (cond b (loaded_at d image low w q.state) (Some d.any))) [
        | true ↦ λ e.
            let same : a ≡ low = omega (arith, eqb-true low high e, reached.0, reached.1) in
            given-at q m w low x h (subst (λ z. IsWordLoaded w z x m) same k) (subst (λ z. IsAccess z (bytes_of w)) same access)
        | false ↦ λ e. any-given w x q m h k.fits
      ] refl
  given-by q m (Place r low high) w a x h k access reached =
      elim (int_eq low high) as (λ b. int_eq low high ≡ b → Gives w x (Some (cond b (loaded_in d image r low w q.state) d.any))) [
        | true ↦ λ e.
            let offset : reached.offset ≡ low = omega (arith, ints, int_eq-true low high e, reached.from_low, reached.to_high) in
            let same : a ≡ place_at reached.base low = reached.is ∙ ap (place_at reached.base) offset in
            record {
              value = loaded_in d image r low w q.state;
              is = refl;
              stands = given-in q m r reached.base low w x h (subst (λ z. IsWordLoaded w z x m) same k) (subst (λ z. IsAccess z (bytes_of w)) same access) reached.has_base;
            }
        | false ↦ λ e. any-given w x q m h k.fits
      ] refl
  given-by q m Anywhere w a x h k access reached = any-given w x q m h k.fits

  given-ends : (w : Width) (x : ℕ) (ws : List Written) (o : Option D) (k : D → Expanded D) (go : ℕ → Ended) → Gives w x o → ((u : D) (y : ℕ) → Stands w u y → Ends (k u) (go y)) → Ends (after_load d image ws o k) (go x)
  given-ends w x ws o k go g then =
      subst (λ z. Ends (after_load d image ws z k) (go x)) (sym g.is) (then g.value x g.stands)

  -- a load of a path stands for that of the machine
  pub loading_ends : (q : Path D) (m : MachineState) (w : Width) (v : D) (a : ℕ) (k : D → Expanded D) (go : ℕ → Ended) → Holds q m → Stands B32 v a
      → ((u : D) (x : ℕ) → Stands w u x → Ends (k u) (go x)) → Ends (loading d image q w v k) (loading_of m w a go)
  unfolding loaded
  loading_ends q m w v a k go h address then =
      let f = h.describes.fits in
      elim (word_at w a m) as (λ o. word_at w a m ≡ o → Ends (loading d image q w v k) (on_word m o go)) [
        | None ↦ λ e. tt
        | Some x ↦ λ e.
            let word = word-loaded w a x m f.inside f.bytes e in
            let access = access-is (memory m) (bytes_of w) a (some-bytes w) f.inside word.mapped in
            given-ends w x q.writes (loaded_by d image (d.reach v) w q.state) k go (given-by q m (d.reach v) w a x h word access (l.reach_holds v p a f.valid address.stands)) then
      ] refl

  -- ---- a store

  -- the bytes that a store writes, as those of an area
  area-write : (q : Path D) (m n : MachineState) (ar : Area) (base : ℕ) (off low end : ℤ) (count a x : ℕ) → Holds q m → IsStored count a x m n → a ≡ place_at base off → IsAccess a count
      → low ≤ℤ off → (off +ℤ pos count) ≤ℤ end → StartsAt p ar base → AreBytes image.segments (interval_between ar low end)
      → IsWrite image.segments p ar base (bytes_in (interval_between ar low end)) (byte_in m) (byte_in n)
  area-write q m n ar base off low end count a x h s at access above below starts bytes = record {
    apart = fits-apart image p m h.describes.fits;
    starts = starts;
    bytes = bytes.each;
    written = written-in base (bytes_in (interval_between ar low end)) count a x m n s (λ i less. record {
      offset = off +ℤ pos i;
      passes = byte-from (interval_between ar low end) ar (off +ℤ pos i) (record { area = refl; low = omega (arith, ints, above); high = omega (arith, ints, below, less) });
      place = sym (place-later base off i (omega (arith, at, access.end, less)) ∙ omega (arith, at));
    });
  }

  words-kept : (m n : MachineState) → n.registers ≡ m.registers → n.eip ≡ m.eip → n.fs ≡ m.fs → n.gs ≡ m.gs → HasWords m → HasWords n
  words-kept m n regs eip fs gs w =
      let back : m.registers ≡ n.registers = sym regs in
      record {
        eax = subst (λ (r : Regs ℕ). r.eax < 2 ^ 32) back w.eax;
        ecx = subst (λ (r : Regs ℕ). r.ecx < 2 ^ 32) back w.ecx;
        edx = subst (λ (r : Regs ℕ). r.edx < 2 ^ 32) back w.edx;
        ebx = subst (λ (r : Regs ℕ). r.ebx < 2 ^ 32) back w.ebx;
        esp = subst (λ (r : Regs ℕ). r.esp < 2 ^ 32) back w.esp;
        ebp = subst (λ (r : Regs ℕ). r.ebp < 2 ^ 32) back w.ebp;
        esi = subst (λ (r : Regs ℕ). r.esi < 2 ^ 32) back w.esi;
        edi = subst (λ (r : Regs ℕ). r.edi < 2 ^ 32) back w.edi;
        eip = omega (arith, eip, w.eip);
        fs = omega (arith, fs, w.fs);
        gs = omega (arith, gs, w.gs);
      }

  -- the state with other parts, and its note or none, after a store
  store-holds : (q : Path D) (m n : MachineState) (count a x : ℕ) (g : PartsHeld D) (note : Option Note) (test : Note → Bool) (ws : List Written) → Holds q m → IsStored count a x m n → AreKept d image.segments image.unset p q.state.parts g (byte_in n) → IsNoteOf q.state.note test note
      → ((o : ℤ) (c : ℕ) → test (Word o c) ≡ false → IsInside (interval_at (In Stack) o (pos 4)) → number_in (byte_in n) p.stack o B32 ≡ number_in (byte_in m) p.stack o B32)
      → Holds (record { state = record (q.state) { parts = g; note = note }; writes = ws }) n
  store-holds q m n count a x g note test ws h s kept is words =
      let e = h.describes in
      record {
        well = record {
          parts = kept.well;
          registers = λ r. subst (λ (bs : List Counted). MayHold d bs B32 (register q.state.regs r)) (sym kept.blocks) (h.well.registers r);
          small = subst AreSmall (sym kept.blocks) h.well.small;
          note = note-well q.state.note note test is h.well.note;
        };
        describes = record {
          fits = fits_kept image p m n (record { mapped = s.mappings; stack = s.stack; fs = s.fs; gs = s.gs }) (s.bytes e.fits.bytes) e.fits;
          words = words-kept m n s.registers s.eip s.fs s.gs e.words;
          registers = subst (λ (r : Regs ℕ). RegistersStand d q.state.regs p r) (sym s.registers) e.registers;
          flags = subst (λ (f : Flags). FlagsStand q.state.flags f) (sym s.flags) e.flags;
          note = note-stays q.state.note note test p m n is h.well.note s.registers s.flags words e.note;
          parts = kept.described;
        };
        blocks_same = kept.blocks ∙ h.blocks_same;
      }

  may-hold : (q : Path D) (m : MachineState) (w : Width) (u : D) (x : ℕ) → Holds q m → Stands w u x → MayHold d q.state.parts.blocks w u
  may-hold q m w u x h k = record {
    fits = λ n e. subst (λ y. y < 2 ^ bits_of w) (l.number_of_alone u n p x h.describes.fits.valid e k.stands) k.fits;
    counted = subst (λ (bs : List Counted). HasCount bs (named (d.reach u))) (sym h.blocks_same) k.counted;
  }

  exact-parts : (q : Path D) (m n : MachineState) (ar : Area) (base : ℕ) (low : ℤ) (w : Width) (u : D) (x : ℕ) → Holds q m → IsWordStored w (place_at base low) x m n
      → IsAccess (place_at base low) (bytes_of w) → IsWrite image.segments p ar base (bytes_in (interval_at ar low (pos (bytes_of w)))) (byte_in m) (byte_in n)
      → AreBytes image.segments (interval_at ar low (pos (bytes_of w))) → IsInside (interval_at ar low (pos (bytes_of w))) → HasCount blocks (block_in ar) → Stands w u x
      → AreKept d image.segments image.unset p q.state.parts (after_exact d ar low w u q.state.parts) (byte_in n)
  exact-parts q m n ar base low w u x h s access write bytes inside counted k =
      let own : HasCount q.state.parts.blocks (block_in ar) = subst (λ (bs : List Counted). HasCount bs (block_in ar)) (sym h.blocks_same) counted in
      let number : number_in (byte_in n) base low w ≡ x = number_in-is (byte_in n) base low w (omega (arith, access.end)) ∙ s.number k.fits in
      record {
        well = exact-well d q.state.parts ar low w u inside own (may-hold q m w u x h k) h.well.parts;
        blocks = refl;
        described = exact-keeps d image.segments image.unset p (byte_in m) (byte_in n) q.state.parts ar base low w u write.apart write.starts bytes own write.written (subst (d.stands u p) (sym number) k.stands) h.describes.parts;
      }

  -- a store stands for that of the machine: a path that goes on holds, and none ends where the machine goes on
  abbrev Goes : StoredPath D → MachineState → Type 0
  Goes (Done, r) n = Holds r n
  Goes (Faults, r) n = ⊥
  Goes (Stopped c, r) n = ⊤

  -- ---- a store at one address

  word-holds : (q : Path D) (m n : MachineState) (w : Width) (a x : ℕ) (u : D) → Holds q m → IsWordStored w a x m n → IsAccess a (bytes_of w) → Stands w u x
      → maps_all image.segments a (bytes_of w) ≡ true → Holds (with_word d image a w u q) n
  word-holds q m n w a x u h s access k mapped =
      let at : place_at 0 (pos a) ≡ a = place_at-is 0 (pos a) a (omega (arith, ints)) (omega (arith, access.end, some-bytes w)) in
      let bytes = image-bytes image.segments a (bytes_of w) mapped in
      let write : IsWrite image.segments p Loaded 0 (bytes_in (interval_at Loaded (pos a) (pos (bytes_of w)))) (byte_in m) (byte_in n) =
      area-write q m n Loaded 0 (pos a) (pos a) (pos a +ℤ pos (bytes_of w)) (bytes_of w) a x h s.is (sym at) access (omega (arith, ints)) (omega (arith, ints)) refl bytes in
      let inside : IsInside (interval_at Loaded (pos a) (pos (bytes_of w))) = record {
        low = omega (arith, ints);
        end = omega (arith, ints, access.end);
        bounded = record { least = omega (arith, ints); greatest = omega (arith, ints, access.end); ordered = omega (arith, ints) };
      } in
      store-holds q m n (bytes_of w) a x _ q.state.note (λ t. false) _ h s.is
      (exact-parts q m n Loaded 0 (pos a) w u x h (subst (λ z. IsWordStored w z x m n) (sym at) s) (subst (λ z. IsAccess z (bytes_of w)) (sym at) access) write bytes inside tt k)
      (λ t e. (e, refl))
      (λ o c _ lies. word-stays image.segments p Loaded 0 (bytes_in (interval_at Loaded (pos a) (pos (bytes_of w)))) (byte_in m) (byte_in n) write o lies (λ t same _ _ _. absurd (cc)))

  goes-at : (q : Path D) (m n : MachineState) (w : Width) (a x : ℕ) (u : D) → Holds q m → IsWordStored w a x m n → IsAccess a (bytes_of w) → Stands w u x
      → Goes (stored_at d image a w u q) n
  goes-at q m n w a x u h s access k =
      elim (touches_fault_zone a (bytes_of w)) as (λ b. touches_fault_zone a (bytes_of w) ≡ b → Goes (cond b (Faults, q) (cond (maps_all image.segments a (bytes_of w)) (cond (may_write_each image.segments a (bytes_of w)) (Done, with_word d image a w u q) (Faults, q)) (Stopped causes.Store, q))) n) [
        | true ↦ λ e. zone-off a (bytes_of w) access e
        | false ↦ λ e. elim (maps_all image.segments a (bytes_of w)) as (λ b. maps_all image.segments a (bytes_of w) ≡ b → Goes (cond b (cond (may_write_each image.segments a (bytes_of w)) (Done, with_word d image a w u q) (Faults, q)) (Stopped causes.Store, q)) n) [
          | true ↦ λ f. elim (may_write_each image.segments a (bytes_of w)) as (λ b. may_write_each image.segments a (bytes_of w) ≡ b → Goes (cond b (Done, with_word d image a w u q) (Faults, q)) n) [
            | true ↦ λ g. word-holds q m n w a x u h s access k f
            | false ↦ λ g.
                both_ways (may_write_each image.segments a (bytes_of w)) g
                (all_from_each (may_write image.segments) a (bytes_of w) (λ c low high.
                image-written image p m c h.describes.fits
                (all_in_range (λ b. is_some (byte_at image.segments b)) a (bytes_of w) c f low high)
                (let e : a + (c - a) ≡ c = omega arith in subst (λ z. may_write (memory m) z ≡ true) e (s.written (c - a) (omega arith)))))
          ] refl
          | false ↦ λ f. tt
        ] refl
      ] refl

  -- ---- a store somewhere in a range of addresses

  -- each byte that was stored is one of a run of those that may be written
  stored-runs : (q : Path D) (m n : MachineState) (w : Width) (a x low size : ℕ) → Holds q m → IsWordStored w a x m n → low ≤ a → a + bytes_of w ≤ low + size → maps_all image.segments low size ≡ true
      → (c : ℕ) → (IsInOne c (runs_of (may_write image.segments) low size) → ⊥) → byte_in n c ≡ byte_in m c
  stored-runs q m n w a x low size h s above below mapped c off =
      ap (λ o. unwrap_or o 0) (s.is.others c (λ i less e.
      let Passes : ℕ → Type 0 = λ z. may_write image.segments z ≡ true in
      let there : low ≤ a + i = omega (arith, above) in
      let within : a + i < low + size = omega (arith, below, less) in
      let passes = image-written image p m (a + i) h.describes.fits (all_in_range (λ b. is_some (byte_at image.segments b)) low size (a + i) mapped there within) (s.written i less) in
      off (run_has (may_write image.segments) low size c (omega (arith, e, there)) (omega (arith, e, within)) (subst Passes (sym e) passes))))

  spans-hold : (q : Path D) (m n : MachineState) (w : Width) (a x low size : ℕ) → Holds q m → IsWordStored w a x m n → IsAccess a (bytes_of w) → low ≤ a → a + bytes_of w ≤ low + size
      → maps_all image.segments low size ≡ true → Holds (with_spans (runs_of (may_write image.segments) low size) q) n
  spans-hold q m n w a x low size h s access above below mapped =
      let at : place_at 0 (pos a) ≡ a = place_at-is 0 (pos a) a (omega (arith, ints)) (omega (arith, access.end, some-bytes w)) in
      let write : IsWrite image.segments p Loaded 0 (bytes_in (interval_at Loaded (pos low) (pos size))) (byte_in m) (byte_in n) =
      area-write q m n Loaded 0 (pos a) (pos low) (pos low +ℤ pos size) (bytes_of w) a x h s.is (sym at) access (omega (arith, ints, above)) (omega (arith, ints, below)) refl (image-bytes image.segments low size mapped) in
      let f = h.describes.fits in
      store-holds q m n (bytes_of w) a x _ q.state.note (λ t. false) _ h s.is
      (spans-keep d image.segments image.unset p (fits-apart image p m f) (segments-inside image p m f) (runs_of (may_write image.segments) low size) q.state.parts (byte_in m) (byte_in n)
      (λ c i. written_mapped image.segments c (run_passes (may_write image.segments) low size c i).passes)
      (stored-runs q m n w a x low size h s above below mapped) h.well.parts h.describes.parts)
      (λ t e. (e, refl))
      (λ o c _ lies. word-stays image.segments p Loaded 0 (bytes_in (interval_at Loaded (pos low) (pos size))) (byte_in m) (byte_in n) write o lies (λ t same _ _ _. absurd (cc)))

  zone-out : (a count low size : ℕ) → 0 < count → IsAccess a count → low ≤ a → a + count ≤ low + size → is_in_fault_zone low size ≡ true → ⊥
  zone-out a count low size some k above below e =
      elim (or_cases (nat_le (low + size) USER_LOW) (nat_le USER_END low) e) [
        | inl x ↦ omega (arith, k.low, some, below, leb-true (low + size) USER_LOW x)
        | inr x ↦ omega (arith, k.end, some, above, leb-true USER_END low x)
      ]

  goes-among : (q : Path D) (m n : MachineState) (w : Width) (a x low size : ℕ) → Holds q m → IsWordStored w a x m n → IsAccess a (bytes_of w) → low ≤ a → a + bytes_of w ≤ low + size
      → Goes (stored_among d image low size q) n
  goes-among q m n w a x low size h s access above below =
      let go = with_spans (runs_of (may_write image.segments) low size) q in
      elim (is_in_fault_zone low size) as (λ b. is_in_fault_zone low size ≡ b → Goes (cond b (Faults, q) (cond (maps_all image.segments low size) (cond (may_write_any image.segments low size) (Done, go) (Faults, q)) (Stopped causes.Store, q))) n) [
        | true ↦ λ e. zone-out a (bytes_of w) low size (some-bytes w) access above below e
        | false ↦ λ e. elim (maps_all image.segments low size) as (λ b. maps_all image.segments low size ≡ b → Goes (cond b (cond (may_write_any image.segments low size) (Done, go) (Faults, q)) (Stopped causes.Store, q)) n) [
          | true ↦ λ f. elim (may_write_any image.segments low size) as (λ b. may_write_any image.segments low size ≡ b → Goes (cond b (Done, go) (Faults, q)) n) [
            | true ↦ λ g. spans-hold q m n w a x low size h s access above below f
            | false ↦ λ g.
                let within : a < low + size = omega (arith, below, some-bytes w) in
                let first : may_write (memory m) a ≡ true = (let e : a + 0 ≡ a = omega arith in subst (λ z. may_write (memory m) z ≡ true) e (s.written 0 (some-bytes w))) in
                both_ways (may_write image.segments a) (none_in_range (may_write image.segments) low size a g above within)
                (image-written image p m a h.describes.fits (all_in_range (λ b. is_some (byte_at image.segments b)) low size a f above within) first)
          ] refl
          | false ↦ λ f. tt
        ] refl
      ] refl

  -- ---- a store at a place of a region

  low-bound : (r : Region) → neg_ℤ (pos (2 ^ 32)) ≤ℤ low_of r
  low-bound Stack = omega (arith, ints)
  low-bound Fs = omega (arith, ints)
  low-bound Gs = omega (arith, ints)
  low-bound (Block site size zeroed) = omega (arith, ints)

  region-inside : (r : Region) (base : ℕ) (low end : ℤ) → IsAllowed r base → low_of r ≤ℤ low → end ≤ℤ high_of r → low ≤ℤ end → IsInside (interval_between (In r) low end)
  region-inside r base low end allowed above below ordered = record {
    low = above;
    end = below;
    bounded = record { least = omega (arith, ints, low-bound r, above); greatest = omega (arith, ints, allowed.high, below); ordered = ordered };
  }

  -- a word that the test of a store's bytes leaves has none of them
  region-word : (r : Region) (low end o q : ℤ) (c : ℕ) → is_in_bytes (In r) low end (Word o c) ≡ false → In Stack ≡ In r → o ≤ℤ q → q <ℤ (o +ℤ pos 4) → bytes_in (interval_between (In r) low end) q ≡ true → ⊥
  region-word r low end o q c fails same above below t =
      let i = byte-is (interval_between (In r) low end) (In r) q t in
      elim (and_cases (same_area (In r) (In Stack)) (int_lt low (o +ℤ pos 4) && int_lt o end) fails) [
        | inl x ↦ both_ways (same_area (In r) (In Stack)) x (ap (same_area (In r)) same ∙ same_area-refl (In r))
        | inr x ↦ elim (and_cases (int_lt low (o +ℤ pos 4)) (int_lt o end) x) [
          | inl y ↦ omega (arith, ints, int_lt-false low (o +ℤ pos 4) y, i.low, below)
          | inr y ↦ omega (arith, ints, int_lt-false o end y, i.high, above)
        ]
      ]

  region-kept : (q : Path D) (m n : MachineState) (r : Region) (base : ℕ) (low high off : ℤ) (w : Width) (x : ℕ) (u : D) → Holds q m → IsWordStored w (place_at base off) x m n → IsAccess (place_at base off) (bytes_of w)
      → HasBase p r base → HasCount blocks (block_of r) → low ≤ℤ off → off ≤ℤ high → low_of r ≤ℤ low → (high +ℤ pos (bytes_of w)) ≤ℤ high_of r → Stands w u x
      → AreKept d image.segments image.unset p q.state.parts (region_parts d image r low high w u q.state.parts) (byte_in n)
  region-kept q m n r base low high off w x u h s access based counted above below least greatest k =
      let allowed = h.describes.fits.valid.allowed r base based in
      let a = place_at base off in
      let end = high +ℤ pos (bytes_of w) in
      elim (int_eq low high) as (λ b. int_eq low high ≡ b → AreKept d image.segments image.unset p q.state.parts (cond b (after_exact d (In r) low w u q.state.parts) (after_inside (In r) low (end -ℤ pos 1) q.state.parts)) (byte_in n)) [
        | true ↦ λ e.
            let one = int_eq-true low high e in
            let same : off ≡ low = omega (arith, ints, one, above, below) in
            let at : a ≡ place_at base low = ap (place_at base) same in
            let bytes = region-bytes image.segments r low (low +ℤ pos (bytes_of w)) least (omega (arith, ints, one, greatest)) in
            let write : IsWrite image.segments p (In r) base (bytes_in (interval_at (In r) low (pos (bytes_of w)))) (byte_in m) (byte_in n) =
            area-write q m n (In r) base low low (low +ℤ pos (bytes_of w)) (bytes_of w) a x h s.is at access (omega (arith, ints)) (omega (arith, ints)) based bytes in
            exact-parts q m n (In r) base low w u x h (subst (λ z. IsWordStored w z x m n) at s) (subst (λ z. IsAccess z (bytes_of w)) at access) write bytes
            (region-inside r base low (low +ℤ pos (bytes_of w)) allowed least (omega (arith, ints, one, greatest)) (omega (arith, ints))) counted k
        | false ↦ λ e.
            let last = end -ℤ pos 1 in
            let bytes = region-bytes image.segments r low (last +ℤ pos 1) least (omega (arith, ints, greatest)) in
            let write : IsWrite image.segments p (In r) base (bytes_in (interval_to (In r) low last)) (byte_in m) (byte_in n) =
            area-write q m n (In r) base off low (last +ℤ pos 1) (bytes_of w) a x h s.is refl access above (omega (arith, ints, below)) based bytes in
            let own : HasCount q.state.parts.blocks (block_of r) = subst (λ (bs : List Counted). HasCount bs (block_of r)) (sym h.blocks_same) counted in
            record {
              well = inside-well d q.state.parts (In r) low last (λ le. region-inside r base low (last +ℤ pos 1) allowed least (omega (arith, ints, greatest)) (omega (arith, ints, le))) own h.well.parts;
              blocks = inside-blocks d q.state.parts (In r) low last;
              described = inside-keeps d image.segments image.unset p (byte_in m) (byte_in n) q.state.parts (In r) base low last write.apart based bytes write.written h.describes.parts;
            }
      ] refl

  goes-in : (q : Path D) (m n : MachineState) (r : Region) (base : ℕ) (low high off : ℤ) (w : Width) (x : ℕ) (u : D) → Holds q m → IsWordStored w (place_at base off) x m n
      → IsAccess (place_at base off) (bytes_of w) → HasBase p r base → HasCount blocks (block_of r) → low ≤ℤ off → off ≤ℤ high → Stands w u x → Goes (stored_in d image r low high w u q) n
  goes-in q m n r base low high off w x u h s access based counted above below k =
      let end = high +ℤ pos (bytes_of w) in
      elim (lies_in_extent r low end) as (λ b. lies_in_extent r low end ≡ b → Goes (cond b (Done, with_region_parts r low end (region_parts d image r low high w u q.state.parts) q) (Stopped (cause_outside r), q)) n) [
        | true ↦ λ e.
            let parts = and_parts (int_le (low_of r) low) (int_le end (high_of r)) e in
            let least = int_le-true (low_of r) low parts.0 in
            let greatest = int_le-true end (high_of r) parts.1 in
            let write : IsWrite image.segments p (In r) base (bytes_in (interval_between (In r) low end)) (byte_in m) (byte_in n) =
            area-write q m n (In r) base off low end (bytes_of w) (place_at base off) x h s.is refl access above (omega (arith, ints, below)) based (region-bytes image.segments r low end least greatest) in
            store-holds q m n (bytes_of w) (place_at base off) x _ (note_unless (is_in_bytes (In r) low end) q.state.note) (is_in_bytes (In r) low end) _ h s.is
            (region-kept q m n r base low high off w x u h s access based counted above below least greatest k)
            (unless-note (is_in_bytes (In r) low end) q.state.note)
            (λ o c fails lies. word-stays image.segments p (In r) base (bytes_in (interval_between (In r) low end)) (byte_in m) (byte_in n) write o lies (λ t same high' low' passes. region-word r low end o t c fails same high' low' passes))
        | false ↦ λ e. tt
      ] refl

  goes-by : (q : Path D) (m n : MachineState) (reach : Reach) (w : Width) (a x : ℕ) (u : D) → Holds q m → IsWordStored w a x m n → IsAccess a (bytes_of w) → Stands w u x
      → IsReached reach p a → HasCount blocks (named reach) → Goes (stored_by d image reach w u q) n
  goes-by q m n (Number low high) w a x u h s access k reached counted =
      elim (low == high) as (λ b. (low == high) ≡ b → Goes (cond b (stored_at d image low w u q) (stored_among d image low ((high + bytes_of w) - low) q)) n) [
        | true ↦ λ e.
            let same : a ≡ low = omega (arith, eqb-true low high e, reached.0, reached.1) in
            goes-at q m n w low x u h (subst (λ z. IsWordStored w z x m n) same s) (subst (λ z. IsAccess z (bytes_of w)) same access) k
        | false ↦ λ e. goes-among q m n w a x low ((high + bytes_of w) - low) h s access reached.0 (omega (arith, reached.0, reached.1))
      ] refl
  goes-by q m n (Place r low high) w a x u h s access k reached counted =
      goes-in q m n r reached.base low high reached.offset w x u h (subst (λ z. IsWordStored w z x m n) reached.is s) (subst (λ z. IsAccess z (bytes_of w)) reached.is access) reached.has_base counted reached.from_low reached.to_high k
  goes-by q m n Anywhere w a x u h s access k reached counted = tt

  -- the machine's state after a store is that before it but for memory
  pub record IsAfterStore (m n : MachineState) : Type 0 where
    pub registers : n.registers ≡ m.registers
    pub eip : n.eip ≡ m.eip
    pub flags : n.flags ≡ m.flags
    pub fs : n.fs ≡ m.fs
    pub gs : n.gs ≡ m.gs

  goes-end : (o : StoredPath D) (n : MachineState) (k : Path D → Expanded D) (go : MachineState → Ended) → Goes o n → ((r : Path D) → Holds r n → Ends (k r) (go n)) → Ends (after_store d image o k) (go n)
  goes-end (Done, r) n k go h then = then r h
  goes-end (Faults, r) n k go h then = absurd h
  goes-end (Stopped c, r) n k go h then = stopped_ends c r.writes (go n)

  -- a store of a path stands for that of the machine
  pub storing_ends : (q : Path D) (m : MachineState) (w : Width) (v u : D) (a x : ℕ) (k : Path D → Expanded D) (go : MachineState → Ended) → Holds q m → Stands B32 v a → Stands w u x
      → ((r : Path D) (n : MachineState) → Holds r n → IsAfterStore m n → Ends (k r) (go n)) → Ends (storing d image q w v u k) (storing_of m w a x go)
  unfolding stored
  storing_ends q m w v u a x k go h address value then =
      let f = h.describes.fits in
      elim (stored_of w a x m) as (λ o. stored_of w a x m ≡ o → Ends (storing d image q w v u k) (on_stored m o go)) [
        | None ↦ λ e. tt
        | Some n ↦ λ e.
            let word = word-stored w a x m n f.inside f.apart e in
            let access = access-is (memory m) (bytes_of w) a (some-bytes w) f.inside (λ i less. written_mapped (memory m) (a + i) (word.written i less)) in
            let s = word.is in
            goes-end (stored_by d image (d.reach v) w u q) n k go (goes-by q m n (d.reach v) w a x u h word access value (l.reach_holds v p a f.valid address.stands) address.counted)
            (λ r holds. then r n holds (record { registers = s.registers; eip = s.eip; flags = s.flags; fs = s.fs; gs = s.gs }))
      ] refl

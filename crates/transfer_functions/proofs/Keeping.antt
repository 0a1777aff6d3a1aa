-- Each step of an expansion keeps states well: what it writes may be held.
use Rattle.std.proofs.Common.{◌≡◌, ℕ, ◌+◌, ◌*◌, ◌<◌, ◌≤◌, ◌%◌, ◌^◌, Bool, true, false, ◌==◌, List, [], ◌∷◌, cond, Option, Some, None, refl, sym, ap, subst, arith, inl, inr}
use Rattle.std.specs.Prelude.{All, Contains, unwrap_or, ℤ, pos, negsuc, ◌+ℤ◌}
use Rattle.std.specs.Ordering.{int_eq}
use Rattle.std.proofs.Math.Nat.{mul-le-mul_left}
use Rattle.address_regions.specs.declared.region.Region.{Region}
use Rattle.address_regions.specs.declared.region.Region.TheVariants as regions
use Rattle.domain_laws.specs.declared.reach.Reach.{Reach}
use Rattle.domain_laws.specs.declared.reach.Reach.TheVariants as reaches
use Rattle.memory_map.specs.declared.span.Span.{Span}
use Rattle.memory_map.specs.Range.{HasBytes, Range, byte_at, maps_all}
use Rattle.memory_map.specs.Spans.{is_in_ranges}
use Rattle.partitioned_memory.specs.declared.area.Area.{Area}
use Rattle.partitioned_memory.specs.declared.area.Area.TheVariants.{Image as Loaded, In}
use Rattle.partitioned_memory.specs.declared.fact.Dirty.{Dirty}
use Rattle.partitioned_memory.specs.Areas.{is_zeroed}
use Rattle.partitioned_memory.specs.Held.{first_byte, found, is_dirty, low_with_high, known_byte, known_half, known_number, loaded_byte, value_read}
use Rattle.x86_syntax.specs.declared.instr.Seg.{Seg}
use Rattle.x86_syntax.specs.declared.instr.Seg.TheVariants.{Plain, Fs, Gs}
use Rattle.x86_semantics.proofs.Storing.{byte-fits}
use Rattle.abstract_state.specs.declared.stored.Stored.TheVariants.{Done, Faults, Stopped}
use Rattle.std.specs.Option.{ForSome}
use Rattle.bit_words.specs.declared.width.Width.{Width}
use Rattle.bit_words.specs.declared.width.Width.TheVariants.{B8, B16, B32}
use Rattle.bit_words.specs.declared.op.Op.{Op}
use Rattle.bit_words.specs.declared.op.Op.TheVariants.{Add, Shl, Low16, PutLow16}
use Rattle.bit_words.specs.Width.{bits_of, bytes_of, cut}
use Rattle.bit_words.specs.Operators.{apply_op}
use Rattle.bit_words.proofs.Laws.{cut-lt}
use Rattle.domain_laws.specs.Laws.{Values, IsLawful}
use Rattle.domain_laws.specs.Reached.{named}
use Rattle.memory_map.specs.Image.{Image}
use Rattle.memory_map.specs.Registers.{register, with_register}
use Rattle.partitioned_memory.specs.declared.fact.Counted.{Counted}
use Rattle.partitioned_memory.specs.Well.{HasCount, MayHold}
use Rattle.partitioned_memory.proofs.Holding.{any-holds, found-holds, number-holds}
use Rattle.x86_syntax.specs.declared.instr.Address.{Address}
use Rattle.x86_syntax.specs.declared.instr.Operand.{Operand}
use Rattle.x86_syntax.specs.declared.instr.Operand.TheVariants.{Register, Number, Memory, Offset}
use Rattle.x86_semantics.specs.Registers.{byte_part, put_byte_part}
use Rattle.x86_semantics.specs.Widths.{width_of, is_place, is_value}
use Rattle.flow_log.proofs.Members.{Contains-cases, Contains-none}
use Rattle.abstract_state.specs.declared.note.Note.{Note}
use Rattle.abstract_state.specs.declared.flags.Truths.{Truths}
use Rattle.abstract_state.specs.Accessing.{StoredPath, after_load, after_store, lies_in_extent, loaded, loaded_at, loaded_by, loaded_in, loading, stored, storing, touches_fault_zone, value_at}
use Rattle.abstract_state.specs.Expanding.{Expanded, Path, Written, ended, lands}
use Rattle.abstract_state.specs.Notes.{IsWellNote, is_of_register}
use Rattle.abstract_state.specs.State.{Known, IsWellState, with_flags, with_register_value}
use Rattle.transfer_functions.specs.Values.{address_value, base_value, in_segment, index_value, log_of_scale, offset_value, scaled_value, on_state, part, with_part, register_value, reading, writing}
use Rattle.transfer_functions.proofs.Holds.{eval-counted, eval-holds, place-counted}
use Rattle.transfer_functions.proofs.Steps.{each_value, either_value, unless_well}
use Rattle.transfer_functions.proofs.Words.{byte_fits, low_word_fits}

by_test : {A : Type 0} {x y : A} (P : A → Type 0) (b : Bool) → (b ≡ true → P x) → (b ≡ false → P y) → P (cond b x y)
by_test P true h k = h refl
by_test P false h k = k refl

-- ---- bytes

product_below : (n a b : ℕ) → a < b → n * a + n ≤ n * b
product_below n a b h = let k : n * (a + 1) ≤ n * b = mul-le-mul_left n (let e : a + 1 ≤ b = omega arith in e) in omega (arith, k)

low_with_high_fits : (n : ℕ) (a b : Option ℕ) (x i j : ℕ) → ((m : ℕ) → a ≡ Some m → m < i) → ((m : ℕ) → b ≡ Some m → m < j) → i ≡ n → low_with_high n a b ≡ Some x → x < n * j
low_with_high_fits n (Some low) (Some high) x i j h k e is =
    let same : low + n * high ≡ x = cc in
    let small : low < n = omega (arith, h low refl) in
    let times : n * high + n ≤ n * j = product_below n high j (k high refl) in
    omega arith
low_with_high_fits n (Some low) None x i j h k e is = cc
low_with_high_fits n None b x i j h k e is = cc

half_fits : (look : ℤ → Option ℕ) (o : ℤ) (x : ℕ) → ((o : ℤ) (m : ℕ) → look o ≡ Some m → m < 256) → known_half look o ≡ Some x → x < 65536
half_fits look o x small e = low_with_high_fits 256 (look o) (look (o +ℤ pos 1)) x 256 256 (small o) (small (o +ℤ pos 1)) refl e

number_fits : (look : ℤ → Option ℕ) (o : ℤ) (w : Width) (x : ℕ) → ((o : ℤ) (m : ℕ) → look o ≡ Some m → m < 256) → known_number look o w ≡ Some x → x < 2 ^ bits_of w
number_fits look o B8 x small e = small o x e
number_fits look o B16 x small e = half_fits look o x small e
number_fits look o B32 x small e = low_with_high_fits 65536 (known_half look o) (known_half look (o +ℤ pos 2)) x 65536 65536 (λ m k. half_fits look o m small k) (λ m k. half_fits look (o +ℤ pos 2) m small k) refl e

loaded_is_small : (ranges : List Range) (unset : List Span) (o : ℤ) (m : ℕ) → All HasBytes ranges → loaded_byte ranges unset o ≡ Some m → m < 256
loaded_is_small ranges unset (pos a) m bytes e =
    by_test (λ (b : Option ℕ). b ≡ Some m → m < 256) (is_in_ranges a unset) (λ _ k. cc)
    (λ _ k. let same : unwrap_or (byte_at ranges a) 0 ≡ m = ap (λ b. unwrap_or b 0) k in subst (λ (n : ℕ). n < 256) same (byte-fits ranges a bytes)) e
loaded_is_small ranges unset (negsuc a) m bytes e = cc

first_is_small : (ranges : List Range) (unset : List Span) (a : Area) (o : ℤ) (m : ℕ) → All HasBytes ranges → first_byte ranges unset a o ≡ Some m → m < 256
first_is_small ranges unset Loaded o m bytes e = loaded_is_small ranges unset o m bytes e
first_is_small ranges unset (In r) o m bytes e =
    by_test (λ (b : Option ℕ). b ≡ Some m → m < 256) (is_zeroed r) (λ _ k. let same : 0 ≡ m = cc in omega arith) (λ _ k. cc) e

byte_is_small : (ranges : List Range) (unset : List Span) (dirty : List Dirty) (a : Area) (o : ℤ) (m : ℕ) → All HasBytes ranges → known_byte ranges unset dirty a o ≡ Some m → m < 256
byte_is_small ranges unset dirty a o m bytes e =
    by_test (λ (b : Option ℕ). b ≡ Some m → m < 256) (is_dirty a o dirty) (λ _ k. cc) (λ _ k. first_is_small ranges unset a o m bytes k) e

-- of no pair something is to be shown, and of one
pub no_pair : {X : Type 0} (P : X → Type 0) (x : X) → Contains [] x → P x
no_pair P x h = absurd (Contains-none x h)

pub one_pair : {X : Type 0} (P : X → Type 0) (y x : X) → P y → Contains (y ∷ []) x → P x
one_pair P y x h c = elim (Contains-cases y x [] c) [ inl e ↦ subst P e h | inr e ↦ absurd (Contains-none x e) ]

module _ {D : Type 0} (d : Values D) (l : IsLawful d) (image : Image) (blocks : List Counted) where
  -- a path whose state is well, with these counts of blocks
  pub record IsWellPath (q : Path D) : Type 0 where
    pub well : IsWellState d q.state
    pub blocks_same : q.state.parts.blocks ≡ blocks

  -- a state that is well, with these counts of blocks
  pub record IsWellNext (s : Known D) : Type 0 where
    pub well : IsWellState d s
    pub blocks_same : s.parts.blocks ≡ blocks

  -- every next state is
  abbrev pub KeepsWell : Expanded D → Type 0
  KeepsWell x = (pair : ℕ × Known D) → Contains x.next pair → IsWellNext pair.1

  abbrev M : Width → D → Type 0
  M w v = MayHold d blocks w v

  pub ended_keeps : (ws : List Written) → KeepsWell (ended ws)
  ended_keeps ws pair held = no_pair (λ (n : ℕ × Known D). IsWellNext n.1) pair held

  pub lands_keeps : (a : ℕ) (q : Path D) → IsWellPath q → KeepsWell (lands a q)
  lands_keeps a q h pair held = one_pair (λ (n : ℕ × Known D). IsWellNext n.1) (a, q.state) pair (record { well = h.well; blocks_same = h.blocks_same }) held

  -- ---- registers

  pub register_holds : (r : ℕ) (q : Path D) → IsWellPath q → M B32 (register_value r q.state)
  register_holds r q h = subst (λ (bs : List Counted). MayHold d bs B32 (register q.state.regs (r % 8))) h.blocks_same (h.well.registers (r % 8))

  pub with_register_keeps : (r : ℕ) (v : D) (q : Path D) → M B32 v → IsWellPath q → IsWellPath (on_state (with_register_value (r % 8) v) q)
  unfolding with_register register
  with_register_keeps r v q m h =
      let P : D → Type 0 = λ u. MayHold d q.state.parts.blocks B32 u in
      let own : MayHold d q.state.parts.blocks B32 v = subst (λ (bs : List Counted). MayHold d bs B32 v) (sym h.blocks_same) m in
      record {
        well = record {
          parts = h.well.parts;
          registers = each_value P (with_register q.state.regs (r % 8) v)
              (either_value P (r % 8 == 0) _ _ own (h.well.registers 0)) (either_value P (r % 8 == 1) _ _ own (h.well.registers 1)) (either_value P (r % 8 == 2) _ _ own (h.well.registers 2)) (either_value P (r % 8 == 3) _ _ own (h.well.registers 3))
              (either_value P (r % 8 == 4) _ _ own (h.well.registers 4)) (either_value P (r % 8 == 5) _ _ own (h.well.registers 5)) (either_value P (r % 8 == 6) _ _ own (h.well.registers 6)) (either_value P (r % 8 == 7) _ _ own (h.well.registers 7));
          small = h.well.small;
          note = unless_well (is_of_register (r % 8)) q.state.note h.well.note;
        };
        blocks_same = h.blocks_same;
      }

  -- an operator's value at 32 bits, which is narrower
  narrow_holds : (op : Op) (w : Width) (a b : D) → ((x y : ℕ) → apply_op op B32 x y < 2 ^ bits_of w) → M B32 a → M B32 b → M w (d.eval op B32 a b image.align)
  narrow_holds op w a b fits h k = record {
    fits = λ n e. let is = l.eval_number op B32 a b image.align n e in subst (λ (x : ℕ). x < 2 ^ bits_of w) (sym is.is) (fits is.first is.second);
    counted = (eval-holds d l blocks op B32 B32 B32 a b image.align h k).counted;
  }

  pub part_holds : (w : Width) (r : ℕ) (q : Path D) → IsWellPath q → M w (part d image.align w r q.state)
  part_holds B8 r q h = narrow_holds (byte_part r) B8 _ _ (byte_fits r) (register_holds (r % 4) q h) (number-holds d l blocks B32 0 (omega arith))
  part_holds B16 r q h = narrow_holds Low16 B16 _ _ low_word_fits (register_holds r q h) (number-holds d l blocks B32 0 (omega arith))
  part_holds B32 r q h = register_holds r q h

  pub with_part_keeps : (w : Width) (r : ℕ) (v : D) (q : Path D) → M w v → IsWellPath q → IsWellPath (on_state (with_part d image.align w r v) q)
  with_part_keeps B8 r v q m h = with_register_keeps (r % 4) _ q (eval-holds d l blocks (put_byte_part r) B32 B8 B32 _ v image.align (register_holds (r % 4) q h) m) h
  with_part_keeps B16 r v q m h = with_register_keeps r _ q (eval-holds d l blocks PutLow16 B32 B16 B32 _ v image.align (register_holds r q h) m) h
  with_part_keeps B32 r v q m h = with_register_keeps r v q m h

  -- ---- flags

  pub noted_keeps : (t : Truths) (kept : Option Note) (q : Path D) → ForSome kept IsWellNote → IsWellPath q → IsWellPath (on_state (λ s. record s { flags = t; note = kept }) q)
  noted_keeps t kept q well h = record { well = record { parts = h.well.parts; registers = h.well.registers; small = h.well.small; note = well }; blocks_same = h.blocks_same }

  pub with_flags_keeps : (t : Truths) (q : Path D) → IsWellPath q → IsWellPath (on_state (with_flags t) q)
  with_flags_keeps t q h = noted_keeps t None q (λ n e. cc) h

  -- ---- loads

  -- what is known of a word may be held: a fact's value, the number of its bytes, or any
  value_holds : (a : Area) (low : ℤ) (w : Width) (s : Known D) → All HasBytes image.segments → IsWellState d s → MayHold d s.parts.blocks w (value_at d image a low w s)
  value_holds a low w s bytes h =
      let known = known_number (known_byte image.segments image.unset s.parts.dirty a) low w in
      elim (found a low w s.parts.facts) as (λ o. found a low w s.parts.facts ≡ o → MayHold d s.parts.blocks w (value_read d o known)) [
        | Some v ↦ λ e. found-holds d s.parts.blocks a low w v s.parts.facts h.parts.facts e
        | None ↦ λ e. elim known as (λ o. known ≡ o → MayHold d s.parts.blocks w (value_read d None o)) [
          | Some n ↦ λ f. number-holds d l s.parts.blocks w n (number_fits _ low w n (λ o m k. byte_is_small image.segments image.unset s.parts.dirty a o m bytes k) f)
          | None ↦ λ f. any-holds d l s.parts.blocks w
        ] refl
      ] refl

  abbrev Loads : Width → Known D → Option D → Type 0
  Loads w s o = (v : D) → o ≡ Some v → MayHold d s.parts.blocks w v

  loads : (w : Width) (s : Known D) (u : D) → MayHold d s.parts.blocks w u → Loads w s (Some u)
  loads w s u h v e = let same : u ≡ v = cc in subst (MayHold d s.parts.blocks w) same h

  loads_any : (w : Width) (s : Known D) → Loads w s (Some d.any)
  loads_any w s = loads w s d.any (any-holds d l s.parts.blocks w)

  loads_at : (a : ℕ) (w : Width) (s : Known D) → All HasBytes image.segments → IsWellState d s → Loads w s (loaded_at d image a w s)
  loads_at a w s bytes h =
      by_test (Loads w s) (touches_fault_zone a (bytes_of w)) (λ _ v e. cc)
      (λ _. by_test (Loads w s) (maps_all image.segments a (bytes_of w)) (λ _. loads w s _ (value_holds Loaded (pos a) w s bytes h)) (λ _. loads_any w s))

  loads_in : (r : Region) (low : ℤ) (w : Width) (s : Known D) → All HasBytes image.segments → IsWellState d s → MayHold d s.parts.blocks w (loaded_in d image r low w s)
  loads_in r low w s bytes h =
      by_test (MayHold d s.parts.blocks w) (lies_in_extent r low (low +ℤ pos (bytes_of w))) (λ _. value_holds (In r) low w s bytes h) (λ _. any-holds d l s.parts.blocks w)

  loads_by : (reach : Reach) (w : Width) (s : Known D) → All HasBytes image.segments → IsWellState d s → Loads w s (loaded_by d image reach w s)
  loads_by (reaches.Number low high) w s bytes h = by_test (Loads w s) (low == high) (λ _. loads_at low w s bytes h) (λ _. loads_any w s)
  loads_by (reaches.Place r low high) w s bytes h =
      loads w s _ (by_test (MayHold d s.parts.blocks w) (int_eq low high) (λ _. loads_in r low w s bytes h) (λ _. any-holds d l s.parts.blocks w))
  loads_by reaches.Anywhere w s bytes h = loads_any w s

  loaded_keeps : (o : Option D) (w : Width) (q : Path D) (k : D → Expanded D) → Loads w q.state o → IsWellPath q → ((u : D) → M w u → KeepsWell (k u)) → KeepsWell (after_load d image q.writes o k)
  loaded_keeps None w q k known h then = ended_keeps q.writes
  loaded_keeps (Some v) w q k known h then = then v (subst (λ (bs : List Counted). MayHold d bs w v) h.blocks_same (known v refl))

  pub loading_keeps : (q : Path D) (w : Width) (v : D) (k : D → Expanded D) → All HasBytes image.segments → IsWellPath q → ((u : D) → M w u → KeepsWell (k u)) → KeepsWell (loading d image q w v k)
  unfolding loaded
  loading_keeps q w v k bytes h then = loaded_keeps _ w q k (loads_by (d.reach v) w q.state bytes h.well) h then

  -- ---- stores

  -- a path that could store a value that may be held is well
  abbrev pub StoresKeep : Type 0
  StoresKeep =
      (q r : Path D) (w : Width) (v u : D) → HasCount blocks (named (d.reach v)) → M w u → IsWellPath q → stored d image w v u q ≡ (Done, r) → IsWellPath r

  stored_keeps : (o : StoredPath D) (k : Path D → Expanded D) → ((r : Path D) → o ≡ (Done, r) → IsWellPath r) → ((r : Path D) → IsWellPath r → KeepsWell (k r)) → KeepsWell (after_store d image o k)
  stored_keeps (Done, r) k well then = then r (well r refl)
  stored_keeps (Faults, r) k well then = ended_keeps r.writes
  stored_keeps (Stopped c, r) k well then = ended_keeps r.writes

  pub storing_keeps : (q : Path D) (w : Width) (v u : D) (k : Path D → Expanded D) → StoresKeep → HasCount blocks (named (d.reach v)) → M w u → IsWellPath q → ((r : Path D) → IsWellPath r → KeepsWell (k r)) → KeepsWell (storing d image q w v u k)
  storing_keeps q w v u k stores counted m h then = stored_keeps (stored d image w v u q) k (λ r e. stores q r w v u counted m h e) then

  -- ---- addresses

  abbrev C : D → Type 0
  C v = HasCount blocks (named (d.reach v))

  base_counted : (b : Option ℕ) (q : Path D) → IsWellPath q → C (base_value d image.align b q.state)
  base_counted None q h = (number-holds d l blocks B32 0 (omega arith)).counted
  base_counted (Some r) q h = (register_holds r q h).counted

  sum_counted : (op : Op) (v u : D) → C v → C u → C (d.eval op B32 v u image.align)
  sum_counted op v u h k = eval-counted d l blocks op B32 v u image.align h k

  number_counted : (n : ℕ) → C (d.number n)
  number_counted n = subst (HasCount blocks) (sym (l.number_names n)) tt

  scaled_counted : (o : Option ℕ) (v : D) → C v → C (scaled_value d image.align o v)
  scaled_counted None v h = (any-holds d l blocks B32).counted
  scaled_counted (Some log) v h = sum_counted Shl v (d.number log) h (number_counted log)

  index_counted : (i : Option (ℕ × ℕ)) (q : Path D) → IsWellPath q → C (index_value d image.align i q.state)
  index_counted None q h = number_counted 0
  index_counted (Some i) q h = scaled_counted (log_of_scale i.1) (register_value i.0 q.state) (register_holds i.0 q h).counted

  pub offset_counted : (a : Address) (q : Path D) → IsWellPath q → C (offset_value d image.align a q.state)
  unfolding offset_value
  offset_counted a q h = sum_counted Add _ _ (sum_counted Add _ _ (base_counted a.base q h) (index_counted a.index q h)) (number_counted (cut B32 a.disp))

  pub segment_counted : (seg : Seg) (v : D) → C v → C (in_segment d image.align seg v)
  segment_counted Plain v h = h
  segment_counted Fs v h = sum_counted Add _ v (place-counted d l blocks regions.Fs (pos 0) refl) h
  segment_counted Gs v h = sum_counted Add _ v (place-counted d l blocks regions.Gs (pos 0) refl) h

  pub address_counted : (a : Address) (q : Path D) → IsWellPath q → C (address_value d image.align a q.state)
  address_counted a q h = segment_counted a.seg _ (offset_counted a q h)

  -- ---- operands

  pub reading_keeps : (o : Operand) (q : Path D) (k : D → Expanded D) → All HasBytes image.segments → is_value o ≡ true → IsWellPath q → ((v : D) → M (width_of o) v → KeepsWell (k v)) → KeepsWell (reading d image q o k)
  reading_keeps (Register w r) q k bytes is h then = then _ (part_holds w r q h)
  reading_keeps (Number w n) q k bytes is h then = then _ (number-holds d l blocks w (cut w n) (cut-lt w n))
  reading_keeps (Memory w a) q k bytes is h then = loading_keeps q w (address_value d image.align a q.state) k bytes h then
  reading_keeps (Offset o) q k bytes is h then = cc

  pub writing_keeps : (o : Operand) (v : D) (q : Path D) (k : Path D → Expanded D) → StoresKeep → is_place o ≡ true → M (width_of o) v → IsWellPath q → ((r : Path D) → IsWellPath r → KeepsWell (k r)) → KeepsWell (writing d image q o v k)
  writing_keeps (Register w r) v q k stores is m h then = then _ (with_part_keeps w r v q m h)
  writing_keeps (Memory w a) v q k stores is m h then = storing_keeps q w (address_value d image.align a q.state) v k stores (address_counted a q h) m h then
  writing_keeps (Number w n) v q k stores is m h then = cc
  writing_keeps (Offset o) v q k stores is m h then = cc

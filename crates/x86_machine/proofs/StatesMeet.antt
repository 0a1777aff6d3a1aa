-- The state that a start file states is one from which a run may begin.
use Rattle.std.proofs.Common.{◌≡◌, ℕ, zero, suc, ◌+◌, ◌-◌, ◌%◌, ◌^◌, ◌<◌, ◌≤◌, Bool, true, false, cond, List, [], ◌∷◌, ◌++◌, map, length, get_or, Option, Some, None, Ok, refl, sym, ◌∙◌, ap, subst, arith, inl, inr}
use Rattle.std.specs.Prelude.{◌⊎◌, ◌||◌, not, nat_le, nat_lt, position, slice_get, slice_index, slice_set, All, IsTrue}
use Rattle.std.specs.List.{AllZip, enumerate_from, list_all, list_any, position_or_len, range_with_len}
use Rattle.std.specs.Option.{option_map}
use Rattle.std.proofs.lemmas.Bool.{and_from, and_parts, cases_Bool, cases_lt, eqb-true, false≢true, le-leb, lt-ltb, ltb-false, or_cases, or_left, or_right, not-false}
use Rattle.std.proofs.lemmas.List.{append_assoc, get_or-append-add, get_or_append_left, get_or_at, length-append, map-append}
use Rattle.std.proofs.lemmas.List.Elements.{All-append, All-cons, All-head, All-map, All-nil, All-set, All-tail, All-weaker}
use Rattle.std.proofs.lemmas.List.Sums.{fails_before_first, list_all-from_AllPass}
use Rattle.std.proofs.lemmas.Option.{slice_get-get_or, slice_get_past}
use Rattle.memory_map.specs.declared.choice.Fill.{Fill as Filling}
use Rattle.memory_map.specs.declared.span.Span.{Span}
use Rattle.memory_map.specs.Image.{EXIT_PLACE, Image, IsLoaded, has_exit_word}
use Rattle.memory_map.specs.Map.{all_apart, is_in_user_space}
use Rattle.memory_map.specs.Range.{AreApart, HasBytes, IsInUserSpace, Mapping, Range, byte_at, has, mapping_of}
use Rattle.memory_map.specs.Spans.{is_in_ranges, is_in_span}
use Rattle.memory_map.specs.Start.{BASE_REACH, HasWord, HoldsLoaded, IsWindow, STACK_ABOVE, STACK_BELOW, Start}
use Rattle.memory_map.specs.State.{MachineState, memory}
use Rattle.memory_map.proofs.Faults.{pairs_apart, user_space}
use Rattle.memory_map.proofs.Lists.{byte_at-here}
use Rattle.memory_map.proofs.Mappings.{apart_mapped, inside_mapped, is_in}
use Rattle.statement_lang.specs.Filling.{bytes_of_fills, fill_byte}
use Rattle.statement_lang.specs.Indexed.{nowhere}
use Rattle.statement_lang.proofs.Indexing.{fill-mapping, has_in}
use Rattle.x86_machine.specs.declared.start_fault.StartFault.{StartFault}
use Rattle.x86_machine.specs.declared.start_fault.StartFault.TheVariants.{Align, Fill, Overlap, Window}
use Rattle.x86_machine.specs.declared.start_file.StartFile.{StartFile}
use Rattle.x86_machine.specs.Started.{bare_state, base_window, exit_word, is_free_byte, is_free_fill, stack_pointer, stack_window, start_bytes, start_fault, start_state, state_unless, unset_zeros, windows, zero_window}
use Rattle.x86_machine.specs.StartLaws.{IsFill, IsStartFile, StatesMeetStart}
use Rattle.x86_machine.proofs.Apart.{zeros_fit, zeros_size}
use Rattle.x86_machine.proofs.Filled.{IsFilledIn, fill-here, filled, filled-mapping, filled-other, fills_each}

-- ---- no fault

pub record IsClear (image : Image) (s : StartFile) : Type 0 where
  pub aligned : stack_pointer s % image.align ≡ 0
  pub windows_lie : list_all is_in_user_space (windows s) ≡ true
  pub apart : all_apart (memory (bare_state image s)) ≡ true
  pub fills : list_all (is_free_fill image s) s.fill ≡ true

abbrev fault_by : Bool → Bool → Bool → Option ℕ → Option StartFault
fault_by a b c p = cond (not a) (Some Align) (cond (not b) (Some Window) (cond (not c) (Some Overlap) (option_map (λ index. Fill index) p)))

clear_parts : (a b c : Bool) (p : Option ℕ) → fault_by a b c p ≡ None → (a ≡ true) × (b ≡ true) × (c ≡ true) × (p ≡ None)
clear_parts true true true None e = (refl, refl, refl, refl)
clear_parts true true true (Some i) e = cc
clear_parts true true false p e = cc
clear_parts true false c p e = cc
clear_parts false b c p e = cc

pub no_position : {X : Type 0} (q : X → Bool) (xs : List X) → position (λ x. not (q x)) xs ≡ None → list_all q xs ≡ true
no_position q xs none =
    elim (cases_Bool (nat_lt (position_or_len (λ x. not (q x)) xs) (length xs))) [
      | inl in' ↦
          let some : Some (position_or_len (λ x. not (q x)) xs) ≡ None =
          ap (λ b. cond b (Some (position_or_len (λ x. not (q x)) xs)) None) (sym in') ∙ none in
          cc
      | inr past ↦
          let long = ltb-false (position_or_len (λ x. not (q x)) xs) (length xs) past in
          list_all-from_AllPass q xs (λ k d within. not-false _ (fails_before_first (λ x. not (q x)) xs k d (omega (arith, within, long))))
    ]

clear_is : (image : Image) (s : StartFile) → start_fault image s ≡ None → IsClear image s
unfolding start_fault
clear_is image s none =
    let parts = clear_parts _ _ _ _ none in
    record {
      aligned = eqb-true _ _ parts.0;
      windows_lie = parts.1;
      apart = parts.2;
      fills = no_position (is_free_fill image s) s.fill parts.3;
    }

stated_parts : (f : Option StartFault) (n m : MachineState) → state_unless f n ≡ Ok m → (f ≡ None) × (n ≡ m)
stated_parts None n m e = (refl, (cc))
stated_parts (Some fault) n m e = cc

-- ---- where bytes are filled in

pub in_both : (xs ys : List (ℕ × ℕ)) (a : ℕ) → IsFilledIn (xs ++ ys) a → IsFilledIn xs a ⊎ IsFilledIn ys a
in_both [] ys a h = inr h
in_both (x ∷ xs) ys a (inl e) = inl (inl e)
in_both (x ∷ xs) ys a (inr h) = elim (in_both xs ys a h) [ inl l ↦ inl (inr l) | inr r ↦ inr r ]

in_zeros : (n low a : ℕ) → IsFilledIn (map (λ b. (b, 0)) (range_with_len low n)) a → (low ≤ a) × (a < low + n)
in_zeros zero low a h = absurd h
in_zeros (suc n) low a (inl e) = (omega (arith, e), omega (arith, e))
in_zeros (suc n) low a (inr h) = (let i = in_zeros n (low + 1) a h in (omega (arith, i.0), omega (arith, i.1)))

pub in_unset : (unset : List Span) (a : ℕ) → IsFilledIn (unset_zeros unset) a → is_in_ranges a unset ≡ true
in_unset [] a h = absurd h
in_unset (s ∷ ss) a h =
    elim (in_both (map (λ b. (b, 0)) (range_with_len s.low s.size)) (unset_zeros ss) a h) [
      | inl own ↦
          let i = in_zeros s.size s.low a own in
          or_left (is_in_span a s) _ (and_from (nat_le s.low a) _ (le-leb s.low a i.0) (lt-ltb a (s.low + s.size) i.1))
      | inr rest ↦ or_right (is_in_span a s) _ (in_unset ss a rest)
    ]

in_bytes : (free : ℕ → Bool) (bytes : List ℕ) (n a : ℕ) → list_all (λ at. free at.0) (enumerate_from n bytes) ≡ true → IsFilledIn (enumerate_from n bytes) a → free a ≡ true
in_bytes free [] n a all h = absurd h
in_bytes free (b ∷ bs) n a all (inl e) = ap free (sym e) ∙ (and_parts (free n) _ all).0
in_bytes free (b ∷ bs) n a all (inr h) = in_bytes free bs (n + 1) a (and_parts (free n) _ all).1 h

in_fills : (free : ℕ → Bool) (fills : List Filling) (a : ℕ) → list_all (λ f. list_all (λ at. free at.0) (enumerate_from f.at f.bytes)) fills ≡ true → IsFilledIn (bytes_of_fills fills) a → free a ≡ true
in_fills free [] a all h = absurd h
in_fills free (f ∷ fs) a all h =
    let parts = and_parts (list_all (λ at. free at.0) (enumerate_from f.at f.bytes)) _ all in
    elim (in_both (enumerate_from f.at f.bytes) (bytes_of_fills fs) a h) [
      | inl own ↦ in_bytes free f.bytes f.at a parts.0 own
      | inr rest ↦ in_fills free fs a parts.1 rest
    ]

pub in_exit : (asked : Bool) (at a : ℕ) → IsFilledIn (exit_word asked at) a → (at ≤ a) × (a < at + 4)
in_exit true at a (inl e) = (omega (arith, e), omega (arith, e))
in_exit true at a (inr (inl e)) = (omega (arith, e), omega (arith, e))
in_exit true at a (inr (inr (inl e))) = (omega (arith, e), omega (arith, e))
in_exit true at a (inr (inr (inr (inl e)))) = (omega (arith, e), omega (arith, e))
in_exit true at a (inr (inr (inr (inr h)))) = absurd h
in_exit false at a h = absurd h

-- ---- windows

pub window_in : (below above base a : ℕ) → below ≤ base → base ≤ a + below → a < base + above → has a (zero_window below above base) ≡ true
window_in below above base a le low end =
    let size = zeros_size (below + above) in
    has_in (zero_window below above base) a (omega (arith, low)) (omega (arith, end, size, le))

pub window_base : (below above base : ℕ) → IsInUserSpace (zero_window below above base) → below ≤ base
window_base below above base user = (let above' = user.above in omega (arith, above'))

pub window_is : (below above base : ℕ) → below ≤ base → IsWindow below above base (zero_window below above base)
window_is below above base le = record { low = omega (arith, le); size = zeros_size (below + above); write = refl; execute = refl }

pub record WindowsLie (s : StartFile) : Type 0 where
  pub stack : IsInUserSpace (stack_window s)
  pub fs : IsInUserSpace (base_window s.fs)
  pub gs : IsInUserSpace (base_window s.gs)

pub lying : (s : StartFile) → list_all is_in_user_space (windows s) ≡ true → WindowsLie s
lying s all =
    let one = and_parts (is_in_user_space (stack_window s)) _ all in
    let two = and_parts (is_in_user_space (base_window s.fs)) _ one.1 in
    let three = and_parts (is_in_user_space (base_window s.gs)) _ two.1 in
    record { stack = user_space (stack_window s) one.0; fs = user_space (base_window s.fs) two.0; gs = user_space (base_window s.gs) three.0 }

module _ (image : Image) (s : StartFile) (clear : IsClear image s) where
  pub lie : WindowsLie s
  lie = lying s clear.windows_lie

  -- a byte is filled in where it is unset, or in a window
  pub filled_where : (a : ℕ) → IsFilledIn (start_bytes image s) a → (is_in_ranges a image.unset ≡ true) ⊎ (list_any (has a) (windows s) ≡ true)
  filled_where a h =
      elim (in_both (unset_zeros image.unset) (bytes_of_fills s.fill ++ exit_word (has_exit_word image) (stack_pointer s)) a h) [
        | inl unset ↦ inl (in_unset image.unset a unset)
        | inr rest ↦ elim (in_both (bytes_of_fills s.fill) (exit_word (has_exit_word image) (stack_pointer s)) a rest) [
          | inl fill ↦
              let free = (and_parts (list_any (has a) (windows s) || is_in_ranges a image.unset) _ (in_fills (is_free_byte image s) s.fill a clear.fills fill)).0 in
              elim (or_cases (list_any (has a) (windows s)) (is_in_ranges a image.unset) free) [ inl w ↦ inr w | inr u ↦ inl u ]
          | inr exit ↦
              let i = in_exit (has_exit_word image) (stack_pointer s) a exit in
              let base = window_base STACK_BELOW STACK_ABOVE (stack_pointer s) lie.stack in
              inr (or_left (has a (stack_window s)) _ (window_in STACK_BELOW STACK_ABOVE (stack_pointer s) a base (omega (arith, i.0)) (omega (arith, i.1))))
        ]
      ]

  -- no address is in a segment and in a window
  apart_off : (r t : Range) (a : ℕ) → AreApart r t → has a r ≡ true → has a t ≡ true → ⊥
  apart_off r t a apart here there =
      let i = is_in r a here in
      let j = is_in t a there in
      let low = i.low in
      let end = i.end in
      let low' = j.low in
      let end' = j.end in
      elim apart [ inl before ↦ omega (arith, before, end, low') | inr behind ↦ omega (arith, behind, end', low) ]

  pub segment_off : (k a : ℕ) → k < length image.segments → has a (get_or image.segments k nowhere) ≡ true → list_any (has a) (windows s) ≡ true → ⊥
  segment_off k a within own any =
      let segments = image.segments in
      let fs = base_window s.fs in
      let gs = base_window s.gs in
      let rest = fs ∷ gs ∷ [] in
      let n = length segments in
      let here = get_or (segments ++ rest) k nowhere in
      let pairs = pairs_apart (memory (bare_state image s)) clear.apart in
      let long = length-append segments rest in
      let seg : get_or (segments ++ rest) k nowhere ≡ get_or segments k nowhere = get_or_append_left segments rest nowhere k within in
      let at : (r : Range) → r ≡ get_or segments k nowhere → has a r ≡ true = λ r same. ap (has a) same ∙ own in
      let first : AreApart (stack_window s) (get_or (segments ++ rest) k nowhere) = pairs 0 (suc k) nowhere (omega arith) (omega (arith, within, long)) in
      let second : AreApart (get_or (segments ++ rest) k nowhere) (get_or (segments ++ rest) n nowhere) = pairs (suc k) (suc n) nowhere (omega (arith, within)) (omega (arith, long)) in
      let third : AreApart (get_or (segments ++ rest) k nowhere) (get_or (segments ++ rest) (n + 1) nowhere) = pairs (suc k) (suc (n + 1)) nowhere (omega (arith, within)) (omega (arith, long)) in
      let fs_is : get_or (segments ++ rest) n nowhere ≡ fs = get_or_at segments fs (gs ∷ []) nowhere n refl in
      let gs_is : get_or (segments ++ rest) (n + 1) nowhere ≡ gs = get_or-append-add segments rest 1 nowhere in
      elim (or_cases (has a (stack_window s)) _ any) [
        | inl in' ↦ apart_off (stack_window s) here a first in' (at here seg)
        | inr more ↦ elim (or_cases (has a fs) _ more) [
          | inl in' ↦ apart_off here (get_or (segments ++ rest) n nowhere) a second (at here seg) (ap (has a) fs_is ∙ in')
          | inr last ↦ elim (or_cases (has a gs) false last) [
            | inl in' ↦ apart_off here (get_or (segments ++ rest) (n + 1) nowhere) a third (at here seg) (ap (has a) gs_is ∙ in')
            | inr never ↦ absurd (false≢true never)
          ]
        ]
      ]

  abbrev list : List (ℕ × ℕ)
  list = start_bytes image s

  abbrev bare : MachineState
  bare = bare_state image s

  -- the state, range by range
  abbrev pub shaped : MachineState
  shaped = record bare { stack = filled list bare.stack; ranges = map (filled list) bare.ranges }

  pub shaped_is : start_state image s ≡ shaped
  unfolding start_state
  shaped_is = fills_each list bare

  mappings : (rs : List Range) → map mapping_of (map (filled list) rs) ≡ map mapping_of rs
  mappings [] = refl
  mappings (r ∷ rs) = ap (λ k. k ∷ map mapping_of (map (filled list) rs)) (filled-mapping list r) ∙ ap (λ ks. mapping_of r ∷ ks) (mappings rs)

  -- ---- segments

  held_bytes : (k i : ℕ) → k < length image.segments → (seg : Range) → seg ≡ get_or image.segments k nowhere
      → IsTrue (is_in_ranges (seg.low + i) image.unset) ⊎ (slice_get (filled list seg).bytes i ≡ slice_get seg.bytes i)
  held_bytes k i within seg is =
      let size : length (filled list seg).bytes ≡ length seg.bytes = ap (λ (m : Mapping). m.size) (filled-mapping list seg) in
      elim (cases_lt i (length seg.bytes)) [
        | inr past ↦ inr (slice_get_past (filled list seg).bytes i (omega (arith, past, size)) ∙ sym (slice_get_past seg.bytes i past))
        | inl in' ↦ elim (cases_Bool (is_in_ranges (seg.low + i) image.unset)) [
          | inl unset ↦ inl unset
          | inr set ↦
              let own : has (seg.low + i) seg ≡ true = has_in seg (seg.low + i) (omega arith) (omega (arith, in')) in
              let off : IsFilledIn list (seg.low + i) → ⊥ = λ h. elim (filled_where (seg.low + i) h) [
                | inl unset ↦ false≢true (sym set ∙ unset)
                | inr window ↦ segment_off k (seg.low + i) within (ap (has (seg.low + i)) (sym is) ∙ own) window
              ] in
              inr (slice_get-get_or (filled list seg).bytes i 0 (omega (arith, in', size)) ∙ ap Some (filled-other list seg i off) ∙ sym (slice_get-get_or seg.bytes i 0 in'))
        ]
      ]

  holds_loaded : (k : ℕ) → k < length image.segments → (seg : Range) → seg ≡ get_or image.segments k nowhere → HoldsLoaded image.unset seg (filled list seg)
  holds_loaded k within seg is =
      let same = filled-mapping list seg in
      record {
        low = ap (λ (m : Mapping). m.low) same;
        size = ap (λ (m : Mapping). m.size) same;
        write = ap (λ (m : Mapping). m.write) same;
        execute = ap (λ (m : Mapping). m.execute) same;
        bytes = λ i. held_bytes k i within seg is;
      }

  zip_map : (R : Range → Range → Type 0) (xs : List Range) → ((k : ℕ) → k < length xs → (x : Range) → x ≡ get_or xs k nowhere → R x (filled list x)) → AllZip R xs (map (filled list) xs)
  zip_map R [] each = tt
  zip_map R (x ∷ xs) each = (each 0 (omega arith) x refl, zip_map R xs (λ k within. each (suc k) (omega (arith, within))))

  -- ---- windows

  window_filled : (below above base : ℕ) → IsInUserSpace (zero_window below above base) → IsWindow below above base (filled list (zero_window below above base))
  window_filled below above base user =
      let w = window_is below above base (window_base below above base user) in
      let same = filled-mapping list (zero_window below above base) in
      let low = ap (λ (m : Mapping). m.low) same in
      let from = w.low in
      record {
        low = omega (arith, low, from);
        size = ap (λ (m : Mapping). m.size) same ∙ w.size;
        write = ap (λ (m : Mapping). m.write) same;
        execute = ap (λ (m : Mapping). m.execute) same;
      }

  -- ---- bytes

  fill_bytes : (a b : ℕ) (r : Range) → b < 256 → HasBytes r → HasBytes (fill_byte a b r)
  fill_bytes a b r fits h =
      elim (cases_Bool (has a r)) [
        | inl in' ↦ (let P : Bool → Type 0 = λ t. HasBytes (cond t (record r { bytes = slice_set r.bytes (a - r.low) b }) r) in subst P (sym in') (All-set (λ n. n < 256) r.bytes (a - r.low) b fits h))
        | inr off ↦ (let P : Bool → Type 0 = λ t. HasBytes (cond t (record r { bytes = slice_set r.bytes (a - r.low) b }) r) in subst P (sym off) h)
      ]

  filled_bytes : (bytes : List (ℕ × ℕ)) (r : Range) → All (λ at. at.1 < 256) bytes → HasBytes r → HasBytes (filled bytes r)
  filled_bytes [] r all h = h
  filled_bytes (at ∷ bytes) r all h =
      filled_bytes bytes (fill_byte at.0 at.1 r) (All-tail (λ x. x.1 < 256) at bytes all) (fill_bytes at.0 at.1 r (All-head (λ x. x.1 < 256) at bytes all) h)

  abbrev Fits : ℕ × ℕ → Type 0
  Fits at = at.1 < 256

  span_fit : (n low : ℕ) → All Fits (map (λ b. (b, 0)) (range_with_len low n))
  span_fit zero low = All-nil Fits
  span_fit (suc n) low = All-cons Fits (low, 0) _ (omega arith) (span_fit n (low + 1))

  unset_fit : (unset : List Span) → All Fits (unset_zeros unset)
  unset_fit [] = All-nil Fits
  unset_fit (u ∷ us) = All-append Fits (map (λ b. (b, 0)) (range_with_len u.low u.size)) (unset_zeros us) (span_fit u.size u.low) (unset_fit us)

  bytes_fit : (bytes : List ℕ) (n : ℕ) → All (λ b. b < 256) bytes → All Fits (enumerate_from n bytes)
  bytes_fit [] n all = All-nil Fits
  bytes_fit (b ∷ bs) n all = All-cons Fits (n, b) _ (All-head (λ x. x < 256) b bs all) (bytes_fit bs (n + 1) (All-tail (λ x. x < 256) b bs all))

  fills_fit : (fills : List Filling) → All IsFill fills → All Fits (bytes_of_fills fills)
  fills_fit [] all = All-nil Fits
  fills_fit (f ∷ fs) all =
      let own = All-head IsFill f fs all in
      All-append Fits (enumerate_from f.at f.bytes) (bytes_of_fills fs) (bytes_fit f.bytes f.at own.bytes) (fills_fit fs (All-tail IsFill f fs all))

  exit_fit : (asked : Bool) (a : ℕ) → All Fits (exit_word asked a)
  exit_fit true a =
      All-cons Fits (a, 0) ((a + 1, 0) ∷ (a + 2, 0) ∷ (a + 3, 0xF0) ∷ []) (omega arith) (All-cons Fits (a + 1, 0) ((a + 2, 0) ∷ (a + 3, 0xF0) ∷ []) (omega arith) (All-cons Fits (a + 2, 0) ((a + 3, 0xF0) ∷ []) (omega arith) (All-cons Fits (a + 3, 0xF0) [] (omega arith) (All-nil Fits))))
  exit_fit false a = All-nil Fits

  list_fits : IsStartFile s → All Fits list
  list_fits file =
      All-append Fits (unset_zeros image.unset) _ (unset_fit image.unset)
      (All-append Fits (bytes_of_fills s.fill) _ (fills_fit s.fill file.fill) (exit_fit (has_exit_word image) (stack_pointer s)))

-- ---- the exit word

-- of two bytes at one address the later one counts
filled_at : (before after : List (ℕ × ℕ)) (a b : ℕ) (r : Range) (i : ℕ) → r.low + i ≡ a → i < length r.bytes → (IsFilledIn after a → ⊥) → get_or (filled (before ++ (a, b) ∷ after) r).bytes i 0 ≡ b
filled_at [] after a b r i at within off =
    let low : (fill_byte a b r).low ≡ r.low = ap (λ (m : Mapping). m.low) (fill-mapping a b r) in
    let P : ℕ → Type 0 = λ n. IsFilledIn after n → ⊥ in
    filled-other after (fill_byte a b r) i (subst P (let e : a ≡ (fill_byte a b r).low + i = omega (arith, at, low) in e) off) ∙ fill-here a b r i at within
filled_at (x ∷ before) after a b r i at within off =
    let low : (fill_byte x.0 x.1 r).low ≡ r.low = ap (λ (m : Mapping). m.low) (fill-mapping x.0 x.1 r) in
    let size : length (fill_byte x.0 x.1 r).bytes ≡ length r.bytes = ap (λ (m : Mapping). m.size) (fill-mapping x.0 x.1 r) in
    filled_at before after a b (fill_byte x.0 x.1 r) i (omega (arith, at, low)) (omega (arith, within, size)) off

grouped : (u f x y : List (ℕ × ℕ)) → u ++ (f ++ (x ++ y)) ≡ (u ++ (f ++ x)) ++ y
grouped u f x y = ap (λ l. u ++ l) (sym (append_assoc f x y)) ∙ sym (append_assoc u (f ++ x) y)

module _ (u f : List (ℕ × ℕ)) (r : Range) (esp at : ℕ) (low : r.low + at ≡ esp) (room : at + 4 ≤ length r.bytes) where
  abbrev all : List (ℕ × ℕ)
  all = u ++ (f ++ exit_word true esp)

  word_byte : (k b : ℕ) (before after : List (ℕ × ℕ)) → k < 4 → exit_word true esp ≡ before ++ (esp + k, b) ∷ after → (IsFilledIn after (esp + k) → ⊥)
      → get_or (filled all r).bytes (at + k) 0 ≡ b
  word_byte k b before after few is off =
      ap (λ l. get_or (filled l r).bytes (at + k) 0) (ap (λ x. u ++ (f ++ x)) is ∙ grouped u f before ((esp + k, b) ∷ after))
      ∙ filled_at (u ++ (f ++ before)) after (esp + k) b r (at + k) (omega (arith, low)) (omega (arith, room, few)) off

  pub byte0 : get_or (filled all r).bytes at 0 ≡ 0
  byte0 =
      ap (λ l. get_or (filled l r).bytes at 0) (grouped u f [] (exit_word true esp))
      ∙ filled_at (u ++ (f ++ [])) ((esp + 1, 0) ∷ (esp + 2, 0) ∷ (esp + 3, 0xF0) ∷ []) esp 0 r at low (omega (arith, room)) (λ h. elim h [
        | inl e ↦ omega (arith, e)
        | inr (inl e) ↦ omega (arith, e)
        | inr (inr (inl e)) ↦ omega (arith, e)
        | inr (inr (inr never)) ↦ never
      ])

  pub byte1 : get_or (filled all r).bytes (at + 1) 0 ≡ 0
  byte1 = word_byte 1 0 ((esp, 0) ∷ []) ((esp + 2, 0) ∷ (esp + 3, 0xF0) ∷ []) (omega arith) refl (λ h. elim h [
    | inl e ↦ omega (arith, e)
    | inr (inl e) ↦ omega (arith, e)
    | inr (inr never) ↦ never
  ])

  pub byte2 : get_or (filled all r).bytes (at + 2) 0 ≡ 0
  byte2 = word_byte 2 0 ((esp, 0) ∷ (esp + 1, 0) ∷ []) ((esp + 3, 0xF0) ∷ []) (omega arith) refl (λ h. elim h [
    | inl e ↦ omega (arith, e)
    | inr never ↦ never
  ])

  pub byte3 : get_or (filled all r).bytes (at + 3) 0 ≡ 0xF0
  byte3 = word_byte 3 0xF0 ((esp, 0) ∷ (esp + 1, 0) ∷ (esp + 2, 0) ∷ []) [] (omega arith) refl (λ never. never)

module _ (image : Image) (s : StartFile) (clear : IsClear image s) where
  abbrev stack_now : Range
  stack_now = filled (start_bytes image s) (stack_window s)

  -- a byte of the stack window as it is found
  found_at : (k b : ℕ) → k < 4096 → get_or stack_now.bytes (STACK_BELOW + k) 0 ≡ b → byte_at (memory (shaped image s clear)) (stack_pointer s + k) ≡ Some b
  found_at k b few is =
      let user = (lie image s clear).stack in
      let base = window_base STACK_BELOW STACK_ABOVE (stack_pointer s) user in
      let same = filled-mapping (start_bytes image s) (stack_window s) in
      let low : stack_now.low ≡ stack_pointer s - STACK_BELOW = ap (λ (m : Mapping). m.low) same in
      let size : length stack_now.bytes ≡ STACK_BELOW + STACK_ABOVE = ap (λ (m : Mapping). m.size) same ∙ zeros_size (STACK_BELOW + STACK_ABOVE) in
      let at : stack_pointer s + k - stack_now.low ≡ STACK_BELOW + k = omega (arith, low, base) in
      byte_at-here stack_now (shaped image s clear).ranges (stack_pointer s + k) (has_in stack_now (stack_pointer s + k) (omega (arith, low, base)) (omega (arith, low, size, base, few)))
      ∙ ap (slice_get stack_now.bytes) at
      ∙ slice_get-get_or stack_now.bytes (STACK_BELOW + k) 0 (omega (arith, size, few))
      ∙ ap Some is

  word_there : (asked : Bool) → has_exit_word image ≡ asked → asked ≡ true → HasWord (memory (shaped image s clear)) (stack_pointer s) EXIT_PLACE
  word_there asked is wanted =
      let user = (lie image s clear).stack in
      let base = window_base STACK_BELOW STACK_ABOVE (stack_pointer s) user in
      let size = zeros_size (STACK_BELOW + STACK_ABOVE) in
      let esp = stack_pointer s in
      let unset = unset_zeros image.unset in
      let fills = bytes_of_fills s.fill in
      let P : Bool → Type 0 = λ t. (k b : ℕ) → get_or (filled (unset ++ (fills ++ exit_word true esp)) (stack_window s)).bytes k 0 ≡ b → get_or (filled (unset ++ (fills ++ exit_word t esp)) (stack_window s)).bytes k 0 ≡ b in
      let back = subst P (sym (is ∙ wanted)) (λ k b e. e) in
      let low : (stack_window s).low + STACK_BELOW ≡ esp = omega (arith, base) in
      let room : STACK_BELOW + 4 ≤ length (stack_window s).bytes = omega (arith, size) in
      let first : byte_at (memory (shaped image s clear)) (esp + 0) ≡ Some 0 = found_at 0 0 (omega arith) (back (STACK_BELOW + 0) 0 (byte0 unset fills (stack_window s) esp STACK_BELOW low room)) in
      record {
        b0 = 0;
        b1 = 0;
        b2 = 0;
        b3 = 0xF0;
        at0 = ap (byte_at (memory (shaped image s clear))) (let e : esp ≡ esp + 0 = omega arith in e) ∙ first;
        at1 = found_at 1 0 (omega arith) (back (STACK_BELOW + 1) 0 (byte1 unset fills (stack_window s) esp STACK_BELOW low room));
        at2 = found_at 2 0 (omega arith) (back (STACK_BELOW + 2) 0 (byte2 unset fills (stack_window s) esp STACK_BELOW low room));
        at3 = found_at 3 0xF0 (omega arith) (back (STACK_BELOW + 3) 0xF0 (byte3 unset fills (stack_window s) esp STACK_BELOW low room));
        word_is = refl;
      }

  inside_bare : IsLoaded image → All IsInUserSpace (memory (bare_state image s))
  inside_bare loaded =
      let w = lie image s clear in
      All-cons IsInUserSpace (stack_window s) _ w.stack
      (All-append IsInUserSpace image.segments _ loaded.map.inside
      (All-cons IsInUserSpace (base_window s.fs) (base_window s.gs ∷ []) w.fs (All-cons IsInUserSpace (base_window s.gs) [] w.gs (All-nil IsInUserSpace))))

  window_bytes : (below above base : ℕ) → HasBytes (zero_window below above base)
  window_bytes below above base = zeros_fit (below + above)

  bytes_bare : IsLoaded image → All HasBytes (memory (bare_state image s))
  bytes_bare loaded =
      All-cons HasBytes (stack_window s) _ (window_bytes STACK_BELOW STACK_ABOVE (stack_pointer s))
      (All-append HasBytes image.segments _ loaded.map.bytes
      (All-cons HasBytes (base_window s.fs) (base_window s.gs ∷ []) (window_bytes BASE_REACH BASE_REACH s.fs) (All-cons HasBytes (base_window s.gs) [] (window_bytes BASE_REACH BASE_REACH s.gs) (All-nil HasBytes))))

  pub shaped_starts : IsLoaded image → IsStartFile s → Start image (shaped image s clear)
  shaped_starts loaded file =
      let w = lie image s clear in
      let list = start_bytes image s in
      let before = memory (bare_state image s) in
      let long = file.registers in
      let word : (k : ℕ) → k < 8 → slice_index s.regs k < 2 ^ 32 = λ k few. file.words k 0 (omega (arith, few, long)) in
      let same = sym (mappings image s clear before) in
      record {
        entry = refl;
        words = record {
          eax = word 0 (omega arith);
          ecx = word 1 (omega arith);
          edx = word 2 (omega arith);
          ebx = word 3 (omega arith);
          esp = word 4 (omega arith);
          ebp = word 5 (omega arith);
          esi = word 6 (omega arith);
          edi = word 7 (omega arith);
          eip = loaded.entry;
          fs = file.fs;
          gs = file.gs;
        };
        aligned = clear.aligned;
        direction = refl;
        mapped = record {
          held = map (filled list) image.segments;
          fs_window = filled list (base_window s.fs);
          gs_window = filled list (base_window s.gs);
          ranges = map-append (filled list) image.segments (base_window s.fs ∷ base_window s.gs ∷ []);
          segments = zip_map image s clear (HoldsLoaded image.unset) image.segments (holds_loaded image s clear);
          fs = window_filled image s clear BASE_REACH BASE_REACH s.fs w.fs;
          gs = window_filled image s clear BASE_REACH BASE_REACH s.gs w.gs;
          stack = window_filled image s clear STACK_BELOW STACK_ABOVE (stack_pointer s) w.stack;
        };
        bytes = All-map HasBytes (filled list) before (All-weaker HasBytes (λ r. HasBytes (filled list r)) (λ r. filled_bytes image s clear list r (list_fits image s clear file)) before (bytes_bare loaded));
        inside = inside_mapped before (map (filled list) before) same (inside_bare loaded);
        apart = apart_mapped before (map (filled list) before) same (pairs_apart before clear.apart);
        exit = word_there (has_exit_word image) refl;
      }

pub states_meet_start : StatesMeetStart
states_meet_start image s m loaded file is =
    let parts = stated_parts (start_fault image s) (start_state image s) m is in
    let clear = clear_is image s parts.0 in
    subst (Start image) (sym (shaped_is image s clear) ∙ parts.1) (shaped_starts image s clear loaded file)

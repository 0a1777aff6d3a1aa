-- The start state describes every allowed start.
use Rattle.std.proofs.Common.{◌≡◌, ℕ, ◌+◌, ◌-◌, ◌^◌, ◌<◌, ◌≤◌, ◌⊎◌, Bool, true, false, cond, List, [], ◌∷◌, ◌++◌, map, length, Option, Some, None, refl, sym, ◌∙◌, ap, subst, inl, inr, arith, ℤ, pos, negsuc, ◌+ℤ◌, ◌≤ℤ◌}
use Rattle.std.specs.Prelude.{All, AllPairs, Contains, is_some, neg_ℤ, slice_get, unwrap_or, ◌&&◌, nat_le, nat_lt}
use Rattle.std.specs.List.{AllZip}
use Rattle.std.proofs.lemmas.Bool.{false≢true, leb-true}
use Rattle.std.proofs.lemmas.Int.{ints}
use Rattle.std.proofs.lemmas.List.{map-append}
use Rattle.std.proofs.lemmas.List.Elements.{All-cons, All-contains, All-contains_itself, All-head, All-nil, All-tail, All-weaker, Contains-append_left, Contains-append_right, Contains-append_cases}
use Rattle.flow_log.proofs.Members.{Contains-cases, Contains-here, Contains-later, Contains-map, Contains-none}
use Rattle.bit_words.specs.declared.width.Width.TheVariants.{B32}
use Rattle.memory_map.specs.declared.span.Span.{Span}
use Rattle.memory_map.specs.Image.{EXIT_PLACE, Image, IsLoaded, has_exit_word}
use Rattle.memory_map.specs.Range.{AreApart, IsInUserSpace, Mapping, Range, byte_at, end_of, has, mapping_of}
use Rattle.memory_map.specs.Spans.{is_in_ranges}
use Rattle.memory_map.specs.State.{MachineState, memory}
use Rattle.memory_map.specs.Start.{BASE_REACH, HasWord, HoldsLoaded, IsWindow, STACK_ABOVE, STACK_BELOW, Start}
use Rattle.memory_map.proofs.Lists.{byte_at-here, byte_at-none, byte_at-there}
use Rattle.memory_map.proofs.Mappings.{apart_not_in, mapped_inside, pairs_head, pairs_tail}
use Rattle.address_regions.specs.declared.region.Region.{Region}
use Rattle.address_regions.specs.declared.region.Region.TheVariants.{Stack, Fs, Gs, Block}
use Rattle.address_regions.specs.Extents.{low_of, high_of}
use Rattle.address_regions.specs.Places.{HasBase, IsAllowed, IsValid, Places, place_at}
use Rattle.domain_laws.specs.Laws.{IsLawful, Values}
use Rattle.partitioned_memory.specs.declared.area.Area.{Area}
use Rattle.partitioned_memory.specs.declared.area.Area.TheVariants as areas
use Rattle.partitioned_memory.specs.Describes.{IsSpread, StartsAt, is_byte_of, number_in, IsDescribed as ArePartsDescribed}
use Rattle.partitioned_memory.specs.Held.{PartsHeld, after_exact, known_byte, nothing_held}
use Rattle.partitioned_memory.proofs.FactsKept.{exact-keeps}
use Rattle.partitioned_memory.proofs.Spread.{spread-apart}
use Rattle.abstract_state.proofs.Covering.{first}
use Rattle.abstract_state.specs.Describes.{Describes, Fits, IsMappedAt, IsRegionAt, byte_in, mappings}
use Rattle.abstract_state.specs.State.{start_state}
use Rattle.abstract_state.specs.Laws.{StartsAreDescribed}
use Rattle.abstract_state.proofs.BridgeBytes.{region-bytes}

-- the places of a run from this start
abbrev places_of : Image → MachineState → Places
places_of image m = record { align = image.align; stack = m.registers.esp; fs = m.fs; gs = m.gs; blocks = [] }

-- ---- the windows, each at its base

window-at : (r : Region) (below above b : ℕ) (x : Range) → low_of r ≡ neg_ℤ (pos below) → high_of r ≡ pos above → IsWindow below above b x → IsRegionAt r b (mapping_of x)
window-at r below above b x low high w =
    let l = w.low in let s = w.size in
    record { low = omega (arith, ints); size = omega (arith, ints); write = w.write; execute = w.execute }

region-allowed : (r : Region) (b : ℕ) (x : Range) → IsRegionAt r b (mapping_of x) → IsInUserSpace x → IsAllowed r b
region-allowed r b x k u =
    let l = k.low in let s = k.size in let above = u.above in let below = u.below in
    record { low = omega (arith, ints); high = omega (arith, ints) }

abbrev Off : Region → ℕ → Region → ℕ → Type 0
Off r x s y = ((pos x +ℤ high_of r) ≤ℤ (pos y +ℤ low_of s)) ⊎ ((pos y +ℤ high_of s) ≤ℤ (pos x +ℤ low_of r))

regions-off : (r s : Region) (x y : ℕ) (a c : Range) → IsRegionAt r x (mapping_of a) → IsRegionAt s y (mapping_of c) → AreApart a c → Off r x s y
regions-off r s x y a c h k apart =
    let hl = h.low in let hs = h.size in let kl = k.low in let ks = k.size in
    elim apart [ inl le ↦ inl (omega (arith, ints)) | inr le ↦ inr (omega (arith, ints)) ]

swapped : (r s : Region) (x y : ℕ) → Off r x s y → Off s y r x
swapped r s x y h = elim h [ inl a ↦ inr a | inr b ↦ inl b ]

segment-off : (t held : Range) (r : Region) (x : ℕ) (c : Range) → mapping_of held ≡ mapping_of t → IsRegionAt r x (mapping_of c) → AreApart held c → (pos (end_of t) ≤ℤ (pos x +ℤ low_of r)) ⊎ ((pos x +ℤ high_of r) ≤ℤ pos t.low)
segment-off t held r x c e k apart =
    let low : held.low ≡ t.low = ap (λ (z : Mapping). z.low) e in
    let size : length held.bytes ≡ length t.bytes = ap (λ (z : Mapping). z.size) e in
    let kl = k.low in let ks = k.size in
    elim apart [ inl le ↦ inl (omega (arith, ints)) | inr le ↦ inr (omega (arith, ints)) ]

AreApart-sym : (a c : Range) → AreApart a c → AreApart c a
AreApart-sym a c h = elim h [ inl x ↦ inr x | inr x ↦ inl x ]

-- ---- segments as they are held

same-mapping : (unset : List Span) (t held : Range) → HoldsLoaded unset t held → mapping_of held ≡ mapping_of t
same-mapping unset t held h =
    let mapped : ℕ → ℕ → Bool → Bool → Mapping = λ low size write execute. record { low = low; size = size; write = write; execute = execute } in
    ap (λ x. mapped x (length held.bytes) held.write held.execute) h.low
    ∙ ap (λ x. mapped t.low x held.write held.execute) h.size
    ∙ ap (λ x. mapped t.low (length t.bytes) x held.execute) h.write
    ∙ ap (λ x. mapped t.low (length t.bytes) t.write x) h.execute

same-mappings : (unset : List Span) (segments held : List Range) → AllZip (HoldsLoaded unset) segments held → map mapping_of held ≡ map mapping_of segments
same-mappings unset [] [] h = refl
same-mappings unset [] (x ∷ xs) h = absurd h
same-mappings unset (t ∷ ts) [] h = absurd h
same-mappings unset (t ∷ ts) (x ∷ xs) (h, hs) = ap (λ k. k ∷ map mapping_of xs) (same-mapping unset t x h) ∙ ap (λ ks. mapping_of t ∷ ks) (same-mappings unset ts xs hs)

-- each segment lies off what each held range lies off
segments-off : (unset : List Span) (segments held : List Range) (r : Region) (x : ℕ) (c : Range) → AllZip (HoldsLoaded unset) segments held → IsRegionAt r x (mapping_of c) → All (λ h. AreApart h c) held → (t : Range) → Contains segments t → (pos (end_of t) ≤ℤ (pos x +ℤ low_of r)) ⊎ ((pos x +ℤ high_of r) ≤ℤ pos t.low)
segments-off unset [] held r x c h k apart t in' = absurd (Contains-none t in')
segments-off unset (s ∷ ss) [] r x c h k apart t in' = absurd h
segments-off unset (s ∷ ss) (g ∷ gs) r x c (h, hs) k apart t in' =
    elim (Contains-cases s t ss in') [
      | inl e ↦ subst (λ (z : Range). (pos (end_of z) ≤ℤ (pos x +ℤ low_of r)) ⊎ ((pos x +ℤ high_of r) ≤ℤ pos z.low)) e (segment-off s g r x c (same-mapping unset s g h) k (All-head (λ q. AreApart q c) g gs apart))
      | inr later ↦ segments-off unset ss gs r x c hs k (All-tail (λ q. AreApart q c) g gs apart) t later
    ]

held_byte : (unset : List Span) (segment held : Range) (a : ℕ) → HoldsLoaded unset segment held → has a held ≡ true → is_in_ranges a unset ≡ false → slice_get held.bytes (a - held.low) ≡ slice_get segment.bytes (a - segment.low)
held_byte unset segment held a holds inside none =
    let from : held.low ≤ a = leb-true held.low a (first (nat_le held.low a) (nat_lt a (end_of held)) inside) in
    let low : segment.low ≡ held.low = sym holds.low in
    let address : segment.low + (a - held.low) ≡ a = omega arith in
    elim (holds.bytes (a - held.low)) [
      | inl unset_there ↦ absurd (false≢true (sym (ap (λ n. is_in_ranges n unset) address ∙ none) ∙ unset_there))
      | inr same ↦ same ∙ ap (λ n. slice_get segment.bytes (a - n)) (sym low)
    ]

same_place : (unset : List Span) (segment held : Range) (a : ℕ) → HoldsLoaded unset segment held → has a held ≡ has a segment
same_place unset segment held a holds =
    ap (λ size. nat_le held.low a && nat_lt a (held.low + size)) holds.size
    ∙ ap (λ low. nat_le low a && nat_lt a (low + length segment.bytes)) holds.low

-- a byte of a segment that is not unset is held
held-bytes : (unset : List Span) (segments held : List Range) (a : ℕ) → AllZip (HoldsLoaded unset) segments held → is_in_ranges a unset ≡ false → byte_at held a ≡ byte_at segments a
held-bytes unset [] [] a h none = refl
held-bytes unset [] (x ∷ xs) a h none = absurd h
held-bytes unset (t ∷ ts) [] a h none = absurd h
held-bytes unset (t ∷ ts) (x ∷ xs) a (h, hs) none =
    elim (has a x) as (λ b. has a x ≡ b → byte_at (x ∷ xs) a ≡ byte_at (t ∷ ts) a) [
      | true ↦ λ e. byte_at-here x xs a e ∙ held_byte unset t x a h e none ∙ sym (byte_at-here t ts a (sym (same_place unset t x a h) ∙ e))
      | false ↦ λ e. byte_at-there x xs a e ∙ held-bytes unset ts xs a hs none ∙ sym (byte_at-there t ts a (sym (same_place unset t x a h) ∙ e))
    ] refl

none-some : (o : Option ℕ) (x : ℕ) → o ≡ None → o ≡ Some x → ⊥
none-some o x e f = cc

-- what is found in the first part of a list is found
found-first : (held rest : List Range) (a n : ℕ) → byte_at held a ≡ Some n → byte_at (held ++ rest) a ≡ Some n
found-first [] rest a n e = absurd (none-some (byte_at [] a) n (byte_at-none a) e)
found-first (x ∷ xs) rest a n e =
    elim (has a x) as (λ b. has a x ≡ b → byte_at (x ∷ (xs ++ rest)) a ≡ Some n) [
      | true ↦ λ h. byte_at-here x (xs ++ rest) a h ∙ sym (byte_at-here x xs a h) ∙ e
      | false ↦ λ h. byte_at-there x (xs ++ rest) a h ∙ found-first xs rest a n (sym (byte_at-there x xs a h) ∙ e)
    ] refl

held-off : (held : List Range) (c e : Range) → AllPairs AreApart (held ++ c ∷ e ∷ []) → All (λ h. AreApart h c) held × All (λ h. AreApart h e) held × AreApart c e
held-off [] c e h = (All-nil (λ q. AreApart q c), All-nil (λ q. AreApart q e), All-head (AreApart c) e [] (pairs_head c (e ∷ []) h))
held-off (x ∷ xs) c e h =
    let first = pairs_head x (xs ++ c ∷ e ∷ []) h in
    let rest = held-off xs c e (pairs_tail x (xs ++ c ∷ e ∷ []) h) in
    let at-c = All-contains (AreApart x) (xs ++ c ∷ e ∷ []) c first (Contains-append_right xs (c ∷ e ∷ []) c (Contains-here c (e ∷ []))) in
    let at-e = All-contains (AreApart x) (xs ++ c ∷ e ∷ []) e first (Contains-append_right xs (c ∷ e ∷ []) e (Contains-later c e (e ∷ []) (Contains-here e []))) in
    (All-cons (λ q. AreApart q c) x xs at-c rest.0, All-cons (λ q. AreApart q e) x xs at-e rest.1, rest.2)

moved : (r s : Region) (x y x' y' : ℕ) → x ≡ x' → y ≡ y' → Off r x' s y' → Off r x s y
moved r s x y x' y' e f h = subst (λ (z : ℕ). Off r z s y) (sym e) (subst (λ (z : ℕ). Off r x' s z) (sym f) h)

module _ (image : Image) (m : MachineState) (loaded : IsLoaded image) (start : Start image m) where
  abbrev held : List Range
  held = start.mapped.held

  abbrev windows : List Range
  windows = start.mapped.fs_window ∷ start.mapped.gs_window ∷ []

  abbrev p : Places
  p = places_of image m

  stack-at : IsRegionAt Stack m.registers.esp (mapping_of m.stack)
  stack-at = window-at Stack STACK_BELOW STACK_ABOVE m.registers.esp m.stack refl refl start.mapped.stack

  fs-at : IsRegionAt Fs m.fs (mapping_of start.mapped.fs_window)
  fs-at = window-at Fs BASE_REACH BASE_REACH m.fs start.mapped.fs_window refl refl start.mapped.fs

  gs-at : IsRegionAt Gs m.gs (mapping_of start.mapped.gs_window)
  gs-at = window-at Gs BASE_REACH BASE_REACH m.gs start.mapped.gs_window refl refl start.mapped.gs

  memory-is : memory m ≡ m.stack ∷ (held ++ windows)
  memory-is = ap (λ rs. m.stack ∷ rs) start.mapped.ranges

  apart : AllPairs AreApart (m.stack ∷ (held ++ windows))
  apart = subst (λ (rs : List Range). AllPairs AreApart rs) memory-is start.apart

  stack-off : All (AreApart m.stack) (held ++ windows)
  stack-off = pairs_head m.stack (held ++ windows) apart

  off : All (λ h. AreApart h start.mapped.fs_window) held × All (λ h. AreApart h start.mapped.gs_window) held × AreApart start.mapped.fs_window start.mapped.gs_window
  off = held-off held start.mapped.fs_window start.mapped.gs_window (pairs_tail m.stack (held ++ windows) apart)

  held-stack : All (λ h. AreApart h m.stack) held
  held-stack = All-weaker (Contains held) (λ h. AreApart h m.stack) (λ h in'. AreApart-sym m.stack h (All-contains (AreApart m.stack) (held ++ windows) h stack-off (Contains-append_left held windows h in'))) held (All-contains_itself held)

  fs-in : Contains (held ++ windows) start.mapped.fs_window
  fs-in = Contains-append_right held windows start.mapped.fs_window (Contains-here start.mapped.fs_window (start.mapped.gs_window ∷ []))

  gs-in : Contains (held ++ windows) start.mapped.gs_window
  gs-in = Contains-append_right held windows start.mapped.gs_window (Contains-later start.mapped.fs_window start.mapped.gs_window (start.mapped.gs_window ∷ []) (Contains-here start.mapped.gs_window []))

  in-memory : (x : Range) → Contains (held ++ windows) x → Contains (memory m) x
  in-memory x k = subst (λ (rs : List Range). Contains rs x) (sym memory-is) (Contains-later m.stack x (held ++ windows) k)

  inside : (x : Range) → Contains (memory m) x → IsInUserSpace x
  inside x k = All-contains IsInUserSpace (memory m) x start.inside k

  allowed : (r : Region) (b : ℕ) → HasBase p r b → IsAllowed r b
  allowed Stack b e = subst (λ (x : ℕ). IsAllowed Stack x) (sym e) (region-allowed Stack m.registers.esp m.stack stack-at (inside m.stack (Contains-here m.stack m.ranges)))
  allowed Fs b e = subst (λ (x : ℕ). IsAllowed Fs x) (sym e) (region-allowed Fs m.fs start.mapped.fs_window fs-at (inside start.mapped.fs_window (in-memory start.mapped.fs_window fs-in)))
  allowed Gs b e = subst (λ (x : ℕ). IsAllowed Gs x) (sym e) (region-allowed Gs m.gs start.mapped.gs_window gs-at (inside start.mapped.gs_window (in-memory start.mapped.gs_window gs-in)))
  allowed (Block site size zeroed) b e = absurd (Contains-none (Block site size zeroed, b) e)

  valid : IsValid p
  valid = record { alignment = loaded.align; aligned = start.aligned; allowed = allowed }

  abbrev IsOff : Range → Region → ℕ → Type 0
  IsOff t r x = (pos (end_of t) ≤ℤ (pos x +ℤ low_of r)) ⊎ ((pos x +ℤ high_of r) ≤ℤ pos t.low)

  segment-spread : (t : Range) → Contains image.segments t → (r : Region) (x : ℕ) → HasBase p r x → IsOff t r x
  segment-spread t in' Stack x e = subst (IsOff t Stack) (sym e) (segments-off image.unset image.segments held Stack m.registers.esp m.stack start.mapped.segments stack-at held-stack t in')
  segment-spread t in' Fs x e = subst (IsOff t Fs) (sym e) (segments-off image.unset image.segments held Fs m.fs start.mapped.fs_window start.mapped.segments fs-at off.0 t in')
  segment-spread t in' Gs x e = subst (IsOff t Gs) (sym e) (segments-off image.unset image.segments held Gs m.gs start.mapped.gs_window start.mapped.segments gs-at off.1 t in')
  segment-spread t in' (Block site size zeroed) x e = absurd (Contains-none (Block site size zeroed, x) e)

  stack-fs : Off Stack m.registers.esp Fs m.fs
  stack-fs = regions-off Stack Fs m.registers.esp m.fs m.stack start.mapped.fs_window stack-at fs-at (All-contains (AreApart m.stack) (held ++ windows) start.mapped.fs_window stack-off fs-in)

  stack-gs : Off Stack m.registers.esp Gs m.gs
  stack-gs = regions-off Stack Gs m.registers.esp m.gs m.stack start.mapped.gs_window stack-at gs-at (All-contains (AreApart m.stack) (held ++ windows) start.mapped.gs_window stack-off gs-in)

  fs-gs : Off Fs m.fs Gs m.gs
  fs-gs = regions-off Fs Gs m.fs m.gs start.mapped.fs_window start.mapped.gs_window fs-at gs-at off.2

  windows-spread : (r s : Region) (x y : ℕ) → HasBase p r x → HasBase p s y → ((r ≡ s) × (x ≡ y)) ⊎ Off r x s y
  windows-spread Stack Stack x y e f = inl (refl, e ∙ sym f)
  windows-spread Stack Fs x y e f = inr (moved Stack Fs x y m.registers.esp m.fs e f stack-fs)
  windows-spread Stack Gs x y e f = inr (moved Stack Gs x y m.registers.esp m.gs e f stack-gs)
  windows-spread Fs Stack x y e f = inr (moved Fs Stack x y m.fs m.registers.esp e f (swapped Stack Fs m.registers.esp m.fs stack-fs))
  windows-spread Fs Fs x y e f = inl (refl, e ∙ sym f)
  windows-spread Fs Gs x y e f = inr (moved Fs Gs x y m.fs m.gs e f fs-gs)
  windows-spread Gs Stack x y e f = inr (moved Gs Stack x y m.gs m.registers.esp e f (swapped Stack Gs m.registers.esp m.gs stack-gs))
  windows-spread Gs Fs x y e f = inr (moved Gs Fs x y m.gs m.fs e f (swapped Fs Gs m.fs m.gs fs-gs))
  windows-spread Gs Gs x y e f = inl (refl, e ∙ sym f)
  windows-spread (Block site size zeroed) s x y e f = absurd (Contains-none (Block site size zeroed, x) e)
  windows-spread Stack (Block site size zeroed) x y e f = absurd (Contains-none (Block site size zeroed, y) f)
  windows-spread Fs (Block site size zeroed) x y e f = absurd (Contains-none (Block site size zeroed, y) f)
  windows-spread Gs (Block site size zeroed) x y e f = absurd (Contains-none (Block site size zeroed, y) f)

  spread : IsSpread image.segments p
  spread = record {
    segments = All-weaker (Contains image.segments) (λ t. (r : Region) (x : ℕ) → HasBase p r x → IsOff t r x) segment-spread image.segments (All-contains_itself image.segments);
    windows = windows-spread;
  }

  -- ---- what is mapped

  mappings-are : mappings m ≡ mapping_of m.stack ∷ (map mapping_of held ++ map mapping_of windows)
  mappings-are = ap (λ rs. map mapping_of rs) memory-is ∙ ap (λ ks. mapping_of m.stack ∷ ks) (map-append mapping_of held windows)

  same : map mapping_of held ≡ map mapping_of image.segments
  same = same-mappings image.unset image.segments held start.mapped.segments

  segment-mapped : (t : Range) → Contains image.segments t → Contains (mappings m) (mapping_of t)
  segment-mapped t in' =
      let k = mapping_of t in
      let here : Contains (map mapping_of held) k = subst (λ (ks : List Mapping). Contains ks k) (sym same) (Contains-map mapping_of image.segments t in') in
      subst (λ (ks : List Mapping). Contains ks k) (sym mappings-are) (Contains-later (mapping_of m.stack) k (map mapping_of held ++ map mapping_of windows) (Contains-append_left (map mapping_of held) (map mapping_of windows) k here))

  not-run : (r : Range) (x : Mapping) → r.execute ≡ false → mapping_of r ≡ x → x.execute ≡ true → ⊥
  not-run r x stays e run = false≢true (sym stays ∙ ap (λ (k : Mapping). k.execute) e ∙ run)

  only-segments : (x : Mapping) → Contains (mappings m) x → x.execute ≡ true → Contains (map mapping_of image.segments) x
  only-segments x in' run =
      elim (Contains-cases (mapping_of m.stack) x (map mapping_of held ++ map mapping_of windows) (subst (λ (ks : List Mapping). Contains ks x) mappings-are in')) [
        | inl e ↦ absurd (not-run m.stack x start.mapped.stack.execute e run)
        | inr later ↦ elim (Contains-append_cases (map mapping_of held) (map mapping_of windows) x later) [
          | inl here ↦ subst (λ (ks : List Mapping). Contains ks x) same here
          | inr there ↦ elim (Contains-cases (mapping_of start.mapped.fs_window) x (mapping_of start.mapped.gs_window ∷ []) there) [
            | inl e ↦ absurd (not-run start.mapped.fs_window x start.mapped.fs.execute e run)
            | inr last ↦ elim (Contains-cases (mapping_of start.mapped.gs_window) x [] last) [
              | inl e ↦ absurd (not-run start.mapped.gs_window x start.mapped.gs.execute e run)
              | inr none ↦ absurd (Contains-none x none)
            ]
          ]
        ]
      ]

  mapped-at : (r : Region) (b : ℕ) → HasBase p r b → IsMappedAt (mappings m) r b
  mapped-at Stack b e = record { mapping = mapping_of m.stack; there = Contains-here (mapping_of m.stack) (map mapping_of m.ranges); is = subst (λ (x : ℕ). IsRegionAt Stack x (mapping_of m.stack)) (sym e) stack-at }
  mapped-at Fs b e = record { mapping = mapping_of start.mapped.fs_window; there = Contains-map mapping_of (memory m) start.mapped.fs_window (in-memory start.mapped.fs_window fs-in); is = subst (λ (x : ℕ). IsRegionAt Fs x (mapping_of start.mapped.fs_window)) (sym e) fs-at }
  mapped-at Gs b e = record { mapping = mapping_of start.mapped.gs_window; there = Contains-map mapping_of (memory m) start.mapped.gs_window (in-memory start.mapped.gs_window gs-in); is = subst (λ (x : ℕ). IsRegionAt Gs x (mapping_of start.mapped.gs_window)) (sym e) gs-at }
  mapped-at (Block site size zeroed) b e = absurd (Contains-none (Block site size zeroed, b) e)

  fits : Fits image p m
  fits = record {
    valid = valid;
    align = refl;
    fs = refl;
    gs = refl;
    stack = stack-at;
    regions = mapped-at;
    segments = All-weaker (Contains image.segments) (λ t. Contains (mappings m) (mapping_of t)) segment-mapped image.segments (All-contains_itself image.segments);
    code = All-weaker (Contains (mappings m)) (λ x. x.execute ≡ true → Contains (map mapping_of image.segments) x) only-segments (mappings m) (All-contains_itself (mappings m));
    spread = spread;
    inside = start.inside;
    apart = start.apart;
    bytes = start.bytes;
  }

  -- ---- bytes

  some-is : (o : Option ℕ) (n : ℕ) → o ≡ Some n → is_some o ≡ true
  some-is o n e = ap is_some e

  loaded-byte : (a n : ℕ) → is_in_ranges a image.unset ≡ false → byte_at image.segments a ≡ Some n → byte_in m a ≡ n
  loaded-byte a n none e =
      let rest : byte_at (held ++ windows) a ≡ Some n = found-first held windows a n (held-bytes image.unset image.segments held a start.mapped.segments none ∙ e) in
      let outside : has a m.stack ≡ false = apart_not_in m.stack (held ++ windows) a stack-off (some-is (byte_at (held ++ windows) a) n rest) in
      ap (λ rs. unwrap_or (byte_at rs a) 0) memory-is ∙ ap (λ o. unwrap_or o 0) (byte_at-there m.stack (held ++ windows) a outside ∙ rest)

  at-address : (a : ℕ) → a < 2 ^ 32 → place_at 0 (pos a) ≡ a
  at-address a less = omega (arith, ints)

  clean-image : (a n : ℕ) (b : Bool) → is_in_ranges a image.unset ≡ b → cond b None (byte_at image.segments a) ≡ Some n → byte_in m (place_at 0 (pos a)) ≡ n
  clean-image a n true e known = absurd (cc)
  clean-image a n false e known =
      let place = mapped_inside image.segments a (some-is (byte_at image.segments a) n known) loaded.map.inside in
      let less : a < 2 ^ 32 = omega (arith, place.1) in
      ap (byte_in m) (at-address a less) ∙ loaded-byte a n e known

  clean : (a : Area) (base : ℕ) (o : ℤ) (n : ℕ) → StartsAt p a base → is_byte_of image.segments a o ≡ true → known_byte image.segments image.unset [] a o ≡ Some n → byte_in m (place_at base o) ≡ n
  clean areas.Image base (pos a) n e byte known = ap (λ z. byte_in m (place_at z (pos a))) e ∙ clean-image a n (is_in_ranges a image.unset) refl known
  clean areas.Image base (negsuc a) n e byte known = absurd (cc)
  clean (areas.In Stack) base o n e byte known = absurd (cc)
  clean (areas.In Fs) base o n e byte known = absurd (cc)
  clean (areas.In Gs) base o n e byte known = absurd (cc)
  clean (areas.In (Block site size zeroed)) base o n e byte known = absurd (Contains-none (Block site size zeroed, base) e)

  -- ---- the exit word

  place-of : (k : ℕ) → k < 4 → place_at m.registers.esp (pos k) ≡ m.registers.esp + k
  place-of k less = let high = (allowed Stack m.registers.esp refl).high in omega (arith, ints)

  word-is : HasWord (memory m) m.registers.esp EXIT_PLACE → number_in (byte_in m) m.registers.esp (pos 0) B32 ≡ EXIT_PLACE
  word-is w =
      let esp = m.registers.esp in
      let byte : (a b : ℕ) → byte_at (memory m) a ≡ Some b → byte_in m a ≡ b = λ a b e. ap (λ o. unwrap_or o 0) e in
      let zero-place : place_at esp (pos 0) ≡ esp = let h = place-of 0 (omega arith) in omega arith in
      let c0 : byte_in m (place_at esp (pos 0)) ≡ w.b0 = ap (byte_in m) zero-place ∙ byte esp w.b0 w.at0 in
      let c1 : byte_in m (place_at esp (pos 0 +ℤ pos 1)) ≡ w.b1 = ap (byte_in m) (place-of 1 (omega arith)) ∙ byte (esp + 1) w.b1 w.at1 in
      let c2 : byte_in m (place_at esp (pos 0 +ℤ pos 2)) ≡ w.b2 = ap (byte_in m) (place-of 2 (omega arith)) ∙ byte (esp + 2) w.b2 w.at2 in
      let c3 : byte_in m (place_at esp ((pos 0 +ℤ pos 2) +ℤ pos 1)) ≡ w.b3 = ap (byte_in m) (place-of 3 (omega arith)) ∙ byte (esp + 3) w.b3 w.at3 in
      omega (arith, c0, c1, c2, c3, w.word_is)

  module _ {D : Type 0} (d : Values D) (l : IsLawful d) where
    nothing-described : ArePartsDescribed d image.segments image.unset p nothing_held (byte_in m)
    nothing-described = record { facts = tt; within = tt; clean = clean; single = λ r base other one h k. absurd (false≢true one) }

    word-described : has_exit_word image ≡ true → ArePartsDescribed d image.segments image.unset p (after_exact d (areas.In Stack) (pos 0) B32 (d.number EXIT_PLACE) nothing_held) (byte_in m)
    word-described has-word =
        exact-keeps d image.segments image.unset p (byte_in m) (byte_in m) nothing_held (areas.In Stack) m.registers.esp (pos 0) B32 (d.number EXIT_PLACE)
        (spread-apart image.segments p valid loaded.map.inside spread) refl (region-bytes image.segments Stack (pos 0) (pos 0 +ℤ pos 4) (omega (arith, ints)) (omega (arith, ints))) tt (λ a q. refl)
        (subst (λ (x : ℕ). d.stands (d.number EXIT_PLACE) p x) (sym (word-is (start.exit has-word))) (l.number_stands EXIT_PLACE p valid)) nothing-described

    parts-described : (b : Bool) → has_exit_word image ≡ b → (let h : PartsHeld D = cond b (after_exact d (areas.In Stack) (pos 0) B32 (d.number EXIT_PLACE) nothing_held) nothing_held in ArePartsDescribed d image.segments image.unset p h (byte_in m))
    parts-described true e = word-described e
    parts-described false e = nothing-described

    described : Describes d image (start_state d image) p m
    unfolding start_state
    described =
        let any : (x : ℕ) → d.stands d.any p x = λ x. l.any_stands p x valid in
        let zero-place : place_at m.registers.esp (pos 0) ≡ m.registers.esp = let h = place-of 0 (omega arith) in omega arith in
        let esp : d.stands (d.place Stack (pos 0)) p m.registers.esp = subst (λ (x : ℕ). d.stands (d.place Stack (pos 0)) p x) zero-place (l.place_stands Stack (pos 0) m.registers.esp p valid refl) in
        record {
          fits = fits;
          words = start.words;
          registers = record { eax = any m.registers.eax; ecx = any m.registers.ecx; edx = any m.registers.edx; ebx = any m.registers.ebx; esp = esp; ebp = any m.registers.ebp; esi = any m.registers.esi; edi = any m.registers.edi };
          flags = record { carry = tt; parity = tt; adjust = tt; zero = tt; sign = tt; overflow = tt; direction = start.direction };
          note = tt;
          parts = parts-described (has_exit_word image) refl;
        }

pub starts-are_described : {D : Type 0} (d : Values D) (l : IsLawful d) → StartsAreDescribed d
starts-are_described d l image m loaded start = (places_of image m, described image m loaded start d l)

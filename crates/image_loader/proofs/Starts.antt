-- A start state for an image: the windows lie in a gap between its segments.
use Rattle.std.proofs.Common.{ℕ, zero, suc, ◌≡◌, ◌+◌, ◌-◌, ◌*◌, ◌/◌, ◌%◌, ◌^◌, ◌<◌, ◌≤◌, ◌⊎◌, inl, inr, ⊎_elim, Bool, true, false, List, [], ◌∷◌, ◌++◌, length, replicate, get_or, refl, sym, ap, ◌∙◌, subst, arith, Some}
use Rattle.std.specs.Prelude.{◌&&◌, nat_le, nat_lt, slice_get, All, AllPairs}
use Rattle.std.specs.List.{AllZip}
use Rattle.std.proofs.lemmas.Bool.{le-leb, lt-ltb, and_from}
use Rattle.std.proofs.lemmas.List.{length-append, length-replicate}
use Rattle.std.proofs.lemmas.List.Elements.{All-append, All-cons, All-nil, All-replicate}
use Rattle.std.proofs.lemmas.Nat.{pow-add}
use Rattle.std.proofs.Math.Nat.{mul-mod_left}
use Rattle.memory_map.specs.Alignment.{IsAlignment}
use Rattle.memory_map.specs.Image.{Image, IsLoaded, EXIT_PLACE}
use Rattle.memory_map.specs.Range.{Range, byte_at, end_of, has, AreApart, HasBytes, IsInUserSpace}
use Rattle.memory_map.specs.State.{MachineState, memory}
use Rattle.memory_map.specs.Start.{Start, HasWord, HoldsLoaded, IsWindow, STACK_BELOW, STACK_ABOVE, BASE_REACH}
use Rattle.memory_map.specs.declared.span.Span.{Span}
use Rattle.memory_map.proofs.Alignments.{alignment_power}
use Rattle.memory_map.proofs.Faults.{pairs-cons}
use Rattle.memory_map.proofs.Lists.{byte_at-here}
use Rattle.image_loader.proofs.Gaps.{Gap, ROOM, gap_of}

-- so many bytes of 0; it does not compute
blank : ℕ → List ℕ
blank n = replicate n 0

length-blank : (n : ℕ) → length (blank n) ≡ n
unfolding blank
length-blank n = length-replicate n 0

blank-bytes : (n : ℕ) → All (λ b. b < 256) (blank n)
unfolding blank
blank-bytes n = All-replicate (λ (b : ℕ). b < 256) n 0 (omega arith)

-- the bytes of the exit place, the lowest first
abbrev exit_bytes : List ℕ
exit_bytes = 0 ∷ 0 ∷ 0 ∷ 240 ∷ []

-- the bytes of the stack window, with the exit place at the stack pointer
stack_bytes : List ℕ
stack_bytes = blank STACK_BELOW ++ exit_bytes ++ blank 4092

length-stack_bytes : length stack_bytes ≡ STACK_BELOW + STACK_ABOVE
unfolding stack_bytes
length-stack_bytes =
    omega (arith, length-append (blank STACK_BELOW ++ exit_bytes) (blank 4092), length-append (blank STACK_BELOW) exit_bytes, length-blank STACK_BELOW, length-blank 4092)

stack-bytes : All (λ b. b < 256) stack_bytes
unfolding stack_bytes
stack-bytes =
    let B : ℕ → Type 0 = λ b. b < 256 in
    All-append B (blank STACK_BELOW ++ exit_bytes) (blank 4092)
    (All-append B (blank STACK_BELOW) exit_bytes (blank-bytes STACK_BELOW)
    (All-cons B 0 (0 ∷ 0 ∷ 240 ∷ []) (omega arith) (All-cons B 0 (0 ∷ 240 ∷ []) (omega arith) (All-cons B 0 (240 ∷ []) (omega arith) (All-cons B 240 [] (omega arith) (All-nil B))))))
    (blank-bytes 4092)

get-past : (n k : ℕ) (xs : List ℕ) → slice_get (replicate n 0 ++ xs) (n + k) ≡ slice_get xs k
get-past zero k xs = let e : 0 + k ≡ k = omega arith in ap (λ i. slice_get xs i) e
get-past (suc n) k xs = let e : suc n + k ≡ suc (n + k) = omega arith in ap (λ i. slice_get (replicate (suc n) 0 ++ xs) i) e ∙ get-past n k xs

append-three : (xs ys zs : List ℕ) → xs ++ ys ++ zs ≡ xs ++ (ys ++ zs)
append-three [] ys zs = refl
append-three (x ∷ xs) ys zs = ap (λ l. x ∷ l) (append-three xs ys zs)

exit_byte : (k b : ℕ) → slice_get (exit_bytes ++ blank 4092) k ≡ Some b → slice_get stack_bytes (STACK_BELOW + k) ≡ Some b
unfolding stack_bytes blank
exit_byte k b h = ap (λ (l : List ℕ). slice_get l (STACK_BELOW + k)) (append-three (blank STACK_BELOW) exit_bytes (blank 4092)) ∙ get-past STACK_BELOW k (exit_bytes ++ blank 4092) ∙ h

abbrev stack_window : ℕ → Range
stack_window esp = record { low = esp - STACK_BELOW; bytes = stack_bytes; write = true; execute = false }

abbrev base_window : ℕ → Range
base_window base = record { low = base - BASE_REACH; bytes = blank (BASE_REACH + BASE_REACH); write = true; execute = false }

stack_byte : (esp k b : ℕ) (others : List Range) → STACK_BELOW ≤ esp → k < STACK_ABOVE → slice_get (exit_bytes ++ blank 4092) k ≡ Some b → byte_at (stack_window esp ∷ others) (esp + k) ≡ Some b
stack_byte esp k b others room within h =
    let r = stack_window esp in
    let held : has (esp + k) r ≡ true = and_from (nat_le r.low (esp + k)) (nat_lt (esp + k) (end_of r)) (le-leb r.low (esp + k) (omega arith)) (lt-ltb (esp + k) (end_of r) (omega (arith, length-stack_bytes))) in
    let at : esp + k - (esp - STACK_BELOW) ≡ STACK_BELOW + k = omega arith in
    byte_at-here r others (esp + k) held ∙ ap (λ i. slice_get stack_bytes i) at ∙ exit_byte k b h

has-exit : (esp : ℕ) (others : List Range) → STACK_BELOW ≤ esp → HasWord (stack_window esp ∷ others) esp EXIT_PLACE
has-exit esp others room =
    let same : esp + 0 ≡ esp = omega arith in
    record {
      b0 = 0;
      b1 = 0;
      b2 = 0;
      b3 = 240;
      at0 = sym (ap (λ a. byte_at (stack_window esp ∷ others) a) same) ∙ stack_byte esp 0 0 others room (omega arith) refl;
      at1 = stack_byte esp 1 0 others room (omega arith) refl;
      at2 = stack_byte esp 2 0 others room (omega arith) refl;
      at3 = stack_byte esp 3 240 others room (omega arith) refl;
      word_is = refl;
    }

-- a multiple of 4,096 is one of each alignment
aligned : (q n : ℕ) → IsAlignment n → q * 4096 % n ≡ 0
aligned q n h =
    let p = alignment_power n h in
    let greatest = p.greatest in
    let split : 12 - p.log + p.log ≡ 12 = omega arith in
    let whole : 2 ^ (12 - p.log) * 2 ^ p.log ≡ 4096 = sym (pow-add 2 (12 - p.log) p.log) ∙ ap (λ e. 2 ^ e) split in
    let times : q * 4096 ≡ q * 2 ^ (12 - p.log) * n = ap (λ k. q * k) (sym whole ∙ ap (λ k. 2 ^ (12 - p.log) * k) (sym p.power)) ∙ assoc q (2 ^ (12 - p.log)) n in
    ap (λ k. k % n) times ∙ mul-mod_left (q * 2 ^ (12 - p.log)) n
  where
    assoc : (a b c : ℕ) → a * (b * c) ≡ a * b * c
    assoc a b c = grind arith

held_as_loaded : (unset : List Span) (segments : List Range) → AllZip (HoldsLoaded unset) segments segments
held_as_loaded unset [] = tt
held_as_loaded unset (s ∷ segments) = (record { low = refl; size = refl; write = refl; execute = refl; bytes = λ i. inr refl }, held_as_loaded unset segments)

pairs-append : (xs ys : List Range) → AllPairs AreApart xs → AllPairs AreApart ys → All (λ x. All (AreApart x) ys) xs → AllPairs AreApart (xs ++ ys)
pairs-append [] ys h k apart = k
pairs-append (x ∷ xs) ys h k apart =
    pairs-cons x (xs ++ ys)
    (All-append (AreApart x) xs ys (λ j d in'. h 0 (suc j) d (omega arith) (omega (arith, in'))) (apart 0 x (omega arith)))
    (pairs-append xs ys (λ i j d lt in'. h (suc i) (suc j) d (omega (arith, lt)) (omega (arith, in'))) k (λ j d in'. apart (suc j) d (omega (arith, in'))))

abbrev Free : ℕ → Range → Type 0
Free low r = (end_of r ≤ low) ⊎ (low + ROOM ≤ r.low)

apart_after : (low : ℕ) (w r : Range) → low ≤ w.low → end_of w ≤ low + ROOM → Free low r → AreApart r w
apart_after low w r above below (inl h) = inl (omega (arith, h, above))
apart_after low w r above below (inr h) = inr (omega (arith, h, below))

apart_before : (low : ℕ) (w r : Range) → low ≤ w.low → end_of w ≤ low + ROOM → Free low r → AreApart w r
apart_before low w r above below (inl h) = inr (omega (arith, h, above))
apart_before low w r above below (inr h) = inl (omega (arith, h, below))

module _ (image : Image) (loaded : IsLoaded image) (gap : Gap image.segments 0xF0000000) where
  q : ℕ
  q = (gap.low + 1064960) / 4096 + 1

  esp : ℕ
  esp = q * 4096

  -- the stack pointer is above the windows of the segments' bases, and not much
  esp_above : gap.low + 1064960 ≤ esp
  unfolding esp q
  esp_above = omega arith

  esp_below : esp ≤ gap.low + 1069056
  unfolding esp q
  esp_below = omega arith

  esp_aligned : esp % image.align ≡ 0
  unfolding esp
  esp_aligned = aligned q image.align loaded.align

  standing : MachineState
  standing = record {
    registers = record { eax = 0; ecx = 0; edx = 0; ebx = 0; esp = esp; ebp = 0; esi = 0; edi = 0 };
    eip = image.entry;
    flags = record { carry = false; parity = false; adjust = false; zero = false; sign = false; overflow = false; direction = false };
    fs = gap.low + 4096;
    gs = gap.low + 12288;
    stack = stack_window esp;
    ranges = image.segments ++ base_window (gap.low + 4096) ∷ base_window (gap.low + 12288) ∷ [];
  }

  pub starts : (m : MachineState) × Start image m
  unfolding standing
  starts =
      let low = gap.low in
      let above = gap.above in
      let below = gap.below in
      let high = esp_above in
      let near = esp_below in
      let stack = stack_window esp in
      let f = base_window (low + 4096) in
      let g = base_window (low + 12288) in
      let windows = f ∷ g ∷ [] in
      let size = length-stack_bytes in
      let base_size = length-blank (BASE_REACH + BASE_REACH) in
      let Bases : Range → Type 0 = λ x. All (AreApart x) windows in
      let from_bases : All Bases image.segments =
      (λ k d in'.
      let r = get_or image.segments k d in
      let free = gap.free k d in' in
      All-cons (AreApart r) f (g ∷ []) (apart_after low f r (omega arith) (omega (arith, base_size)) free)
      (All-cons (AreApart r) g [] (apart_after low g r (omega arith) (omega (arith, base_size)) free) (All-nil (AreApart r)))) in
      let from_stack : All (AreApart stack) image.segments =
      (λ k d in'. apart_before low stack (get_or image.segments k d) (omega (arith, high)) (omega (arith, near, size, high)) (gap.free k d in')) in (
        standing,
        record {
          entry = refl;
          words = record { eax = omega arith; ecx = omega arith; edx = omega arith; ebx = omega arith; esp = omega (arith, near, below); ebp = omega arith; esi = omega arith; edi = omega arith; eip = loaded.entry; fs = omega (arith, below); gs = omega (arith, below) };
          aligned = esp_aligned;
          direction = refl;
          mapped = record {
            held = image.segments;
            fs_window = f;
            gs_window = g;
            ranges = refl;
            segments = held_as_loaded image.unset image.segments;
            fs = record { low = omega arith; size = base_size; write = refl; execute = refl };
            gs = record { low = omega arith; size = base_size; write = refl; execute = refl };
            stack = record { low = omega (arith, high); size = size; write = refl; execute = refl };
          };
          bytes = All-cons HasBytes stack (image.segments ++ windows) stack-bytes
              (All-append HasBytes image.segments windows loaded.map.bytes
              (All-cons HasBytes f (g ∷ []) (blank-bytes (BASE_REACH + BASE_REACH)) (All-cons HasBytes g [] (blank-bytes (BASE_REACH + BASE_REACH)) (All-nil HasBytes))));
          inside = All-cons IsInUserSpace stack (image.segments ++ windows) (record { above = omega (arith, high, above); below = omega (arith, near, below, size, high) })
              (All-append IsInUserSpace image.segments windows loaded.map.inside
              (All-cons IsInUserSpace f (g ∷ []) (record { above = omega (arith, above); below = omega (arith, below, base_size) })
              (All-cons IsInUserSpace g [] (record { above = omega (arith, above); below = omega (arith, below, base_size) }) (All-nil IsInUserSpace))));
          apart = pairs-cons stack (image.segments ++ windows)
              (All-append (AreApart stack) image.segments windows from_stack
              (All-cons (AreApart stack) f (g ∷ []) (inr (omega (arith, high, base_size))) (All-cons (AreApart stack) g [] (inr (omega (arith, high, base_size))) (All-nil (AreApart stack)))))
              (pairs-append image.segments windows loaded.map.apart
              (pairs-cons f (g ∷ []) (All-cons (AreApart f) g [] (inl (omega (arith, base_size))) (All-nil (AreApart f)))
              (pairs-cons g [] (All-nil (AreApart g)) (λ i j d lt in'. absurd (omega (arith, in')))))
              from_bases);
          exit = λ pe. has-exit esp (image.segments ++ windows) (omega (arith, high));
        },
      )

pub can_start : (image : Image) → IsLoaded image → length image.segments ≤ 97 → (m : MachineState) × Start image m
can_start image loaded few = starts image loaded (gap_of image.segments loaded.map few)

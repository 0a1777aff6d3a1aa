-- The code that a row knows: how it is run through, and that it is what the machine fetches.
use Rattle.std.proofs.Common.{ℕ, zero, suc, ◌≡◌, ◌+◌, ◌-◌, ◌<◌, ◌≤◌, true, false, List, [], ◌∷◌, ◌++◌, map, length, Option, Some, None, refl, sym, ap, ◌∙◌, arith, inl, inr, append_assoc, length-append, zero-add}
use Rattle.std.specs.Prelude.{nat_lt, is_some, option_and_then, slice_get, unwrap_or, All, AllPairs, Contains}
use Rattle.std.specs.List.{list_any}
use Rattle.std.proofs.lemmas.Bool.{cases_Bool, false≢true, lt-ltb}
use Rattle.std.proofs.lemmas.Bool.Decides.{nat_tests}
use Rattle.std.proofs.lemmas.List.{append-nil}
use Rattle.std.proofs.lemmas.List.Elements.{All-head, All-tail}
use Rattle.std.proofs.lemmas.List.Folds.{list_any_at}
use Rattle.memory_map.specs.Image.{Image}
use Rattle.memory_map.specs.Range.{AreApart, IsInUserSpace, LONGEST_INSTRUCTION, Mapping, Range, USER_END, byte_at, code_at, code_run, cons_or_end, has, mapping_of, run_of}
use Rattle.memory_map.specs.State.{memory}
use Rattle.memory_map.proofs.Lists.{byte_at-here, byte_at-there, code_at-here, code_at-none, code_at-not_code, code_at-not_here, run_of-goes, run_of-stops}
use Rattle.memory_map.proofs.Mappings.{apart_not_in, is_mapped, lies_at, mapped_inside, pairs_head, pairs_tail}
use Rattle.x86_semantics.proofs.Storing.{byte-fits}
use Rattle.flow_log.proofs.Members.{Contains-cases}
use Rattle.domain_laws.specs.Laws.{IsLawful, Values}
use Rattle.partitioned_memory.specs.KnownBytes.{known_image_byte}
use Rattle.partitioned_memory.proofs.KnownBytes.{known-byte_stands}
use Rattle.abstract_state.specs.Describes.{byte_in, mappings}
use Rattle.abstract_state.specs.State.{Known}
use Rattle.transfer_functions.specs.Fetching.{is_cut, known_code_at, known_run}
use Rattle.transfer_functions.specs.Laws.{KnownCodeIsFetched}

-- ---- runs

-- a run that goes on at an address
pub record GoesOn (look : ℕ → Option ℕ) (n a : ℕ) : Type 0 where
  pub byte : ℕ
  pub rest : ℕ
  pub left : n ≡ rest + 1
  pub there : look a ≡ Some byte

pub goes-on : (look : ℕ → Option ℕ) (n a : ℕ) → 0 < length (run_of look n a) → GoesOn look n a
unfolding run_of
goes-on look zero a some = absurd (omega arith)
goes-on look (suc n) a some =
    elim (look a) as (λ o. look a ≡ o → 0 < length (cons_or_end o (run_of look n (a + 1))) → GoesOn look (suc n) a) [
      | None ↦ λ e k. absurd (omega arith)
      | Some b ↦ λ e k. record { byte = b; rest = n; left = omega arith; there = e }
    ] refl some

-- where one run has ended, so has one over fewer bytes
pub also-ended : (look other : ℕ → Option ℕ) (n a : ℕ) → (look a ≡ None → other a ≡ None) → length (run_of look n a) ≡ 0 → run_of other n a ≡ []
unfolding run_of
also-ended look other zero a less none = refl
also-ended look other (suc n) a less none =
    elim (look a) as (λ o. look a ≡ o → length (cons_or_end o (run_of look n (a + 1))) ≡ 0 → run_of other (suc n) a ≡ []) [
      | None ↦ λ e k. run_of-stops other (suc n) a (less e)
      | Some b ↦ λ e k. absurd (omega arith)
    ] refl none

-- the byte at a place of a run is the one looked up there
pub run-at : (look : ℕ → Option ℕ) (n a i x : ℕ) → slice_get (run_of look n a) i ≡ Some x → look (a + i) ≡ Some x
unfolding run_of
run-at look zero a i x e = absurd (cc)
run-at look (suc n) a zero x e =
    elim (look a) as (λ o. look a ≡ o → slice_get (cons_or_end o (run_of look n (a + 1))) zero ≡ Some x → look (a + zero) ≡ Some x) [
      | None ↦ λ k q. absurd (cc)
      | Some b ↦ λ k q. (let same : a + zero ≡ a = omega arith in ap look same ∙ k ∙ q)
    ] refl e
run-at look (suc n) a (suc i) x e =
    elim (look a) as (λ o. slice_get (cons_or_end o (run_of look n (a + 1))) (suc i) ≡ Some x → look (a + suc i) ≡ Some x) [
      | None ↦ λ q. absurd (cc)
      | Some b ↦ λ q. (let same : a + suc i ≡ a + 1 + i = omega arith in ap look same ∙ run-at look n (a + 1) i x q)
    ] e

-- ---- the machine's code

-- a mapping that has an address and may be executed
pub record IsCodeOf (ks : List Mapping) (a : ℕ) : Type 0 where
  pub mapping : Mapping
  pub held : Contains ks mapping
  pub at : lies_at a mapping ≡ true
  pub execute : mapping.execute ≡ true

code-held : (segments : List Range) (ks : List Mapping) (a : ℕ) → All (λ s. Contains ks (mapping_of s)) segments → is_some (code_at segments a) ≡ true → IsCodeOf ks a
code-held [] ks a held e = absurd (false≢true (sym (ap is_some (code_at-none a)) ∙ e))
code-held (s ∷ ss) ks a held e =
    let rest = All-tail (λ s. Contains ks (mapping_of s)) s ss held in
    elim (cases_Bool s.execute) [
      | inl x ↦ elim (cases_Bool (has a s)) [
        | inl h ↦ record { mapping = mapping_of s; held = All-head (λ s. Contains ks (mapping_of s)) s ss held; at = h; execute = x }
        | inr h ↦ code-held ss ks a rest (sym (ap is_some (code_at-not_here s ss a h)) ∙ e)
      ]
      | inr x ↦ code-held ss ks a rest (sym (ap is_some (code_at-not_code s ss a x)) ∙ e)
    ]

any-held : (ks : List Mapping) (k : Mapping) (a : ℕ) → Contains ks k → lies_at a k ≡ true → list_any (lies_at a) ks ≡ true
any-held ks k a held at = list_any_at (lies_at a) ks held.0 k held.1 (ap (lies_at a) held.2 ∙ at)

-- of ranges that lie apart, one that may be executed has all the bytes at its addresses
code-there : (rs : List Range) (k : Mapping) (a : ℕ) → AllPairs AreApart rs → Contains (map mapping_of rs) k → lies_at a k ≡ true → k.execute ≡ true → code_at rs a ≡ byte_at rs a
code-there [] k a apart held at x = absurd (omega (arith, held.1))
code-there (r ∷ rs) k a apart held at x =
    elim (Contains-cases (mapping_of r) k (map mapping_of rs) held) [
      | inl same ↦
          let own : has a r ≡ true = ap (lies_at a) same ∙ at in
          let run : r.execute ≡ true = ap (λ (y : Mapping). y.execute) same ∙ x in
          code_at-here r rs a run own ∙ sym (byte_at-here r rs a own)
      | inr later ↦
          let mapped : is_some (byte_at rs a) ≡ true = is_mapped rs a ∙ any-held (map mapping_of rs) k a later at in
          let off : has a r ≡ false = apart_not_in r rs a (pairs_head r rs apart) mapped in
          code_at-not_here r rs a off ∙ code-there rs k a (pairs_tail r rs apart) later at x ∙ sym (byte_at-there r rs a off)
    ]

-- code of the image lies in user space
pub code-inside : (rs : List Range) (a : ℕ) → All IsInUserSpace rs → is_some (code_at rs a) ≡ true → a < USER_END
code-inside [] a inside e = absurd (false≢true (sym (ap is_some (code_at-none a)) ∙ e))
code-inside (r ∷ rs) a inside e =
    elim (cases_Bool r.execute) [
      | inl x ↦ elim (cases_Bool (has a r)) [
        | inl h ↦ (mapped_inside (r ∷ rs) a (ap is_some (sym (code_at-here r rs a x h ∙ sym (byte_at-here r rs a h))) ∙ e) inside).1
        | inr h ↦ code-inside rs a (All-tail IsInUserSpace r rs inside) (sym (ap is_some (code_at-not_here r rs a h)) ∙ e)
      ]
      | inr x ↦ code-inside rs a (All-tail IsInUserSpace r rs inside) (sym (ap is_some (code_at-not_code r rs a x)) ∙ e)
    ]

is-byte : (o : Option ℕ) (n : ℕ) → is_some o ≡ true → unwrap_or o 0 ≡ n → o ≡ Some n
is-byte None n some e = absurd (false≢true some)
is-byte (Some b) n some e = ap Some e

-- an executable byte that is known
pub record IsKnownCode {D : Type 0} (d : Values D) (image : Image) (s : Known D) (a n : ℕ) : Type 0 where
  pub code : is_some (code_at image.segments a) ≡ true
  pub known : known_image_byte d image.segments image.unset s.parts a ≡ Some n

pub known-code : {D : Type 0} (d : Values D) (image : Image) (s : Known D) (a n : ℕ) → known_code_at d image s a ≡ Some n → IsKnownCode d image s a n
known-code d image s a n e =
    let known = known_image_byte d image.segments image.unset s.parts a in
    elim (code_at image.segments a) as (λ o. code_at image.segments a ≡ o → option_and_then (λ _. known) o ≡ Some n → IsKnownCode d image s a n) [
      | None ↦ λ k q. absurd (cc)
      | Some b ↦ λ k q. record { code = ap is_some k; known = q }
    ] refl e

module _ {D : Type 0} (d : Values D) (l : IsLawful d) where
  pub known-fetched : KnownCodeIsFetched d
  unfolding known_run
  known-fetched image s p m at i n describes e =
      let a = at + i in
      let f = describes.fits in
      let k = known-code d image s a n (run-at (known_code_at d image s) 15 at i n e) in
      let held = code-held image.segments (mappings m) a f.segments k.code in
      let mapped : is_some (byte_at (memory m) a) ≡ true = is_mapped (memory m) a ∙ any-held (mappings m) held.mapping a held.held held.at in
      let inside = mapped_inside (memory m) a mapped f.inside in
      let byte = known-byte_stands d l p f.valid (byte_in m) (λ c. byte-fits (memory m) c f.bytes) image.segments image.unset s.parts a n (omega (arith, inside.1)) describes.parts k.known in
      code-there (memory m) held.mapping a f.apart held.held held.at held.execute ∙ is-byte (byte_at (memory m) a) n mapped byte

-- ---- the code that a row knows

not_less : (a b : ℕ) → b ≤ a → nat_lt a b ≡ false
not_less a b h = grind (arith, nat_tests)

-- the bytes before a place of the code were all known, and both runs go on there
pub record IsRun {D : Type 0} (d : Values D) (image : Image) (s : Known D) (at i : ℕ) (bytes : List ℕ) : Type 0 where
  pub count : length bytes ≡ i
  pub known : known_run d image s at ≡ bytes ++ run_of (known_code_at d image s) (LONGEST_INSTRUCTION - i) (at + i)
  pub code : length (code_run image.segments at) ≡ i + length (run_of (code_at image.segments) (LONGEST_INSTRUCTION - i) (at + i))

module _ {D : Type 0} (d : Values D) (image : Image) (s : Known D) (at : ℕ) where
  pub run-starts : IsRun d image s at 0 []
  unfolding known_run code_run
  run-starts = let here : at ≡ at + 0 = omega arith in record {
    count = refl;
    known = ap (run_of (known_code_at d image s) LONGEST_INSTRUCTION) here;
    code = ap (λ a. length (run_of (code_at image.segments) LONGEST_INSTRUCTION a)) here ∙ sym (zero-add (length (run_of (code_at image.segments) LONGEST_INSTRUCTION (at + 0))));
  }

  -- there is code at the next place
  next-code : (i : ℕ) (bytes : List ℕ) → IsRun d image s at i bytes → i < length (code_run image.segments at) → GoesOn (code_at image.segments) (LONGEST_INSTRUCTION - i) (at + i)
  next-code i bytes h less = goes-on (code_at image.segments) (LONGEST_INSTRUCTION - i) (at + i) (omega (arith, h.code, less))

  -- and what is known of it is what is known of the image's byte
  next-known : (i : ℕ) (o : Option ℕ) → GoesOn (code_at image.segments) (LONGEST_INSTRUCTION - i) (at + i) → known_image_byte d image.segments image.unset s.parts (at + i) ≡ o → known_code_at d image s (at + i) ≡ o
  next-known i o k e = ap (λ c. option_and_then (λ _. known_image_byte d image.segments image.unset s.parts (at + i)) c) k.there ∙ e

  pub run-more : (i n : ℕ) (bytes more : List ℕ) → IsRun d image s at i bytes → i < length (code_run image.segments at) → known_image_byte d image.segments image.unset s.parts (at + i) ≡ Some n → more ≡ bytes ++ n ∷ [] → IsRun d image s at (i + 1) more
  run-more i n bytes more h less e is =
      let k = next-code i bytes h less in
      let left : LONGEST_INSTRUCTION - i ≡ (LONGEST_INSTRUCTION - (i + 1)) + 1 = omega (arith, k.left) in
      let next : at + i + 1 ≡ at + (i + 1) = omega arith in
      let goes = run_of-goes (known_code_at d image s) (LONGEST_INSTRUCTION - i) (LONGEST_INSTRUCTION - (i + 1)) (at + i) n left (next-known i (Some n) k e) in
      let also = run_of-goes (code_at image.segments) (LONGEST_INSTRUCTION - i) (LONGEST_INSTRUCTION - (i + 1)) (at + i) k.byte left k.there in
      record {
        count = ap length is ∙ length-append bytes (n ∷ []) ∙ ap (λ m. m + 1) h.count;
        known =
            h.known ∙ ap (λ xs. bytes ++ xs) (goes ∙ ap (λ a. n ∷ run_of (known_code_at d image s) (LONGEST_INSTRUCTION - (i + 1)) a) next)
            ∙ sym (append_assoc bytes (n ∷ []) (run_of (known_code_at d image s) (LONGEST_INSTRUCTION - (i + 1)) (at + (i + 1))))
            ∙ ap (λ xs. xs ++ run_of (known_code_at d image s) (LONGEST_INSTRUCTION - (i + 1)) (at + (i + 1))) (sym is);
        code = (let same = ap (λ a. length (run_of (code_at image.segments) (LONGEST_INSTRUCTION - (i + 1)) a)) next in omega (arith, h.code, ap length also, same));
      }

  pub run-cut : (i : ℕ) (bytes : List ℕ) → IsRun d image s at i bytes → i < length (code_run image.segments at) → known_image_byte d image.segments image.unset s.parts (at + i) ≡ None → (bytes ≡ known_run d image s at) × (true ≡ is_cut d image s at)
  unfolding is_cut
  run-cut i bytes h less e =
      let k = next-code i bytes h less in
      let ended = run_of-stops (known_code_at d image s) (LONGEST_INSTRUCTION - i) (at + i) (next-known i None k e) in
      let whole : known_run d image s at ≡ bytes = h.known ∙ ap (λ xs. bytes ++ xs) ended ∙ append-nil bytes in
      (sym whole, sym (lt-ltb (length (known_run d image s at)) (length (code_run image.segments at)) (omega (arith, ap length whole, h.count, less))))

  pub run-ends : (i : ℕ) (bytes : List ℕ) → IsRun d image s at i bytes → length (code_run image.segments at) ≤ i → (bytes ≡ known_run d image s at) × (false ≡ is_cut d image s at)
  unfolding is_cut
  run-ends i bytes h last =
      let none : length (run_of (code_at image.segments) (LONGEST_INSTRUCTION - i) (at + i)) ≡ 0 = omega (arith, h.code, last) in
      let less : code_at image.segments (at + i) ≡ None → known_code_at d image s (at + i) ≡ None =
      λ e. ap (λ c. option_and_then (λ _. known_image_byte d image.segments image.unset s.parts (at + i)) c) e in
      let ended = also-ended (code_at image.segments) (known_code_at d image s) (LONGEST_INSTRUCTION - i) (at + i) less none in
      let whole : known_run d image s at ≡ bytes = h.known ∙ ap (λ xs. bytes ++ xs) ended ∙ append-nil bytes in
      (sym whole, sym (not_less (length (known_run d image s at)) (length (code_run image.segments at)) (omega (arith, ap length whole, h.count, last))))

  -- and it lies in user space
  pub run-inside : (i : ℕ) (bytes : List ℕ) → IsRun d image s at i bytes → i < length (code_run image.segments at) → All IsInUserSpace image.segments → at + i < USER_END
  run-inside i bytes h less inside = (let k = next-code i bytes h less in code-inside image.segments (at + i) inside (ap is_some k.there))

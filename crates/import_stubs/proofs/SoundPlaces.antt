-- A further range of memory, and the places of a run that has a further block.
use Rattle.std.proofs.Common.{◌≡◌, ℕ, zero, suc, ◌+◌, ◌<◌, ◌≤◌, Bool, true, false, not, cond, List, [], ◌∷◌, ◌++◌, map, get_or, Option, Some, None, refl, sym, ap, ◌∙◌, subst, arith, pos, ◌+ℤ◌, ◌≤ℤ◌, inl, inr, replicate}
use Rattle.std.specs.Prelude.{◌⊎◌, ◌&&◌, All, AllPairs, Contains, filter, nat_le}
use Rattle.std.specs.List.{list_all}
use Rattle.std.proofs.lemmas.Bool.{and_parts, both_ways, cases_Bool, false_from_ne_true, false≢true, leb-true, not_from_false, not-true, or_cases}
use Rattle.std.proofs.lemmas.Int.{ints}
use Rattle.std.proofs.lemmas.List.{map-append, length-replicate}
use Rattle.std.proofs.lemmas.List.Elements.{All-append, All-cons, All-contains, All-head, All-map, All-nil, All-push, All-tail, All-weaker, Contains-append_left, Contains-push}
use Rattle.memory_map.specs.Image.{Image}
use Rattle.memory_map.specs.Range.{AreApart, HasBytes, IsInUserSpace, Mapping, Range, USER_END, USER_LOW, end_of, mapping_of}
use Rattle.memory_map.specs.State.{MachineState, memory}
use Rattle.memory_map.proofs.Mappings.{pairs_head, pairs_tail}
use Rattle.address_regions.specs.declared.region.Region.{Region}
use Rattle.address_regions.specs.declared.region.Region.TheVariants.{Stack, Fs, Gs, Block}
use Rattle.address_regions.specs.Extents.{high_of, low_of}
use Rattle.address_regions.specs.Places.{HasBase, IsAllowed, IsValid, KeepsBases, Places}
use Rattle.address_regions.specs.Same.{same_region}
use Rattle.address_regions.proofs.RegionLaws.{same_region-is, same_region-refl}
use Rattle.partitioned_memory.specs.declared.fact.Counted.{Counted}
use Rattle.partitioned_memory.specs.Held.{is_counted}
use Rattle.partitioned_memory.specs.Well.{HasCount}
use Rattle.partitioned_memory.specs.Describes.{GainsBlock, IsSpread}
use Rattle.flow_log.proofs.Members.{Contains-cases, Contains-here, Contains-later, Contains-none}
use Rattle.abstract_state.specs.Describes.{Fits, IsMappedAt, IsRegionAt, mappings}
use Rattle.import_semantics.specs.StubDoes.{LARGEST_BLOCK, fresh_block, is_apart, may_lie, with_block}

-- ---- one more range

-- what a range that may lie there is
pub record MayLie (m : MachineState) (r : Range) : Type 0 where
  pub size : end_of r ≤ r.low + LARGEST_BLOCK
  pub user : IsInUserSpace r
  pub apart : All (λ x. AreApart x r) (memory m)

apart-each : (rs : List Range) (r : Range) → list_all (is_apart r) rs ≡ true → All (λ x. AreApart x r) rs
apart-each [] r e = All-nil (λ x. AreApart x r)
apart-each (x ∷ xs) r e =
    let parts = and_parts (is_apart r x) (list_all (is_apart r) xs) e in
    All-cons (λ y. AreApart y r) x xs
    (elim (or_cases (nat_le (end_of r) x.low) (nat_le (end_of x) r.low) parts.0) [
      | inl k ↦ inr (leb-true (end_of r) x.low k)
      | inr k ↦ inl (leb-true (end_of x) r.low k)
    ])
    (apart-each xs r parts.1)

pub may_lie-is : (m : MachineState) (r : Range) → may_lie m r ≡ true → MayLie m r
may_lie-is m r e =
    let a = and_parts (nat_le (end_of r) (r.low + LARGEST_BLOCK)) (nat_le USER_LOW r.low && (nat_le (end_of r) USER_END && list_all (is_apart r) (memory m))) e in
    let b = and_parts (nat_le USER_LOW r.low) (nat_le (end_of r) USER_END && list_all (is_apart r) (memory m)) a.1 in
    let c = and_parts (nat_le (end_of r) USER_END) (list_all (is_apart r) (memory m)) b.1 in
    record {
      size = leb-true (end_of r) (r.low + LARGEST_BLOCK) a.0;
      user = record { above = leb-true USER_LOW r.low b.0; below = leb-true (end_of r) USER_END c.0 };
      apart = apart-each (memory m) r c.1;
    }

pairs-cons : (x : Range) (xs : List Range) → All (AreApart x) xs → AllPairs AreApart xs → AllPairs AreApart (x ∷ xs)
pairs-cons x xs first rest zero zero d lt l = absurd (omega arith)
pairs-cons x xs first rest zero (suc j) d lt l = first j d (omega (arith, l))
pairs-cons x xs first rest (suc i) zero d lt l = absurd (omega (arith, lt))
pairs-cons x xs first rest (suc i) (suc j) d lt l = rest i j d (omega (arith, lt)) (omega (arith, l))

pairs-nil : AllPairs AreApart []
pairs-nil i j d lt l = absurd (omega (arith, l))

pairs-push : (xs : List Range) (y : Range) → AllPairs AreApart xs → All (λ x. AreApart x y) xs → AllPairs AreApart (xs ++ y ∷ [])
pairs-push [] y h far = pairs-cons y [] (All-nil (AreApart y)) pairs-nil
pairs-push (x ∷ xs) y h far =
    pairs-cons x (xs ++ y ∷ []) (All-push (AreApart x) xs y (pairs_head x xs h) (All-head (λ z. AreApart z y) x xs far)) (pairs-push xs y (pairs_tail x xs h) (All-tail (λ z. AreApart z y) x xs far))

-- the places of a run fit a memory with one more range that is not executed
pub fits-more : (image : Image) (p : Places) (m : MachineState) (r : Range) → MayLie m r → r.execute ≡ false → HasBytes r → Fits image p m → Fits image p (with_block (Some r) m)
fits-more image p m r lies plain bytes f =
    let k = mapping_of r in
    let n = with_block (Some r) m in
    let more : mappings n ≡ mappings m ++ k ∷ [] = map-append mapping_of (memory m) (r ∷ []) in
    let Code : Mapping → Type 0 = λ x. x.execute ≡ true → Contains (map mapping_of image.segments) x in
    record {
      valid = f.valid;
      align = f.align;
      fs = f.fs;
      gs = f.gs;
      stack = f.stack;
      regions = λ s b h.
          let x = f.regions s b h in
          record { mapping = x.mapping; there = subst (λ (ks : List Mapping). Contains ks x.mapping) (sym more) (Contains-append_left (mappings m) (k ∷ []) x.mapping x.there); is = x.is };
      segments = All-weaker (λ s. Contains (mappings m) (mapping_of s)) (λ s. Contains (mappings n) (mapping_of s))
          (λ s c. subst (λ (ks : List Mapping). Contains ks (mapping_of s)) (sym more) (Contains-append_left (mappings m) (k ∷ []) (mapping_of s) c)) image.segments f.segments;
      code = subst (λ (ks : List Mapping). All Code ks) (sym more) (All-append Code (mappings m) (k ∷ []) f.code (All-cons Code k [] (λ x. absurd (both_ways r.execute plain x)) (All-nil Code)));
      spread = f.spread;
      inside = All-push IsInUserSpace (memory m) r f.inside lies.user;
      apart = pairs-push (memory m) r f.apart lies.apart;
      bytes = All-push HasBytes (memory m) r f.bytes bytes;
    }

-- ---- one more base

abbrev kept : Region → Bool → List (Region × ℕ) → List (Region × ℕ)
kept r true bs = bs
kept r false bs = filter (λ e. not (same_region e.0 r)) bs

-- the places with one more base of a region, whose earlier bases stay where it had a count
abbrev pub gained : Region → Bool → ℕ → Places → Places
gained r had base p = record p { blocks = (r, base) ∷ kept r had p.blocks }

filter-from : {X : Type 0} (t : X → Bool) (xs : List X) (x : X) → Contains (filter t xs) x → Contains xs x × (t x ≡ true)
filter-from t [] x h = absurd (Contains-none x h)
filter-from {X} t (y ∷ ys) x h =
    elim (t y) as (λ b. t y ≡ b → Contains (cond b (y ∷ filter t ys) (filter t ys)) x → Contains (y ∷ ys) x × (t x ≡ true)) [
      | true ↦ λ e k. elim (Contains-cases y x (filter t ys) k) [
        | inl same ↦ (subst (λ (z : X). Contains (y ∷ ys) z) same (Contains-here y ys), sym (ap t same) ∙ e)
        | inr later ↦ let r = filter-from t ys x later in (Contains-later y x ys r.0, r.1)
      ]
      | false ↦ λ e k. let r = filter-from t ys x k in (Contains-later y x ys r.0, r.1)
    ] refl h

filter-to : {X : Type 0} (t : X → Bool) (xs : List X) (x : X) → Contains xs x → t x ≡ true → Contains (filter t xs) x
filter-to t [] x h e = absurd (Contains-none x h)
filter-to {X} t (y ∷ ys) x h e =
    elim (t y) as (λ b. t y ≡ b → Contains (cond b (y ∷ filter t ys) (filter t ys)) x) [
      | true ↦ λ f. elim (Contains-cases y x ys h) [
        | inl same ↦ subst (λ (z : X). Contains (y ∷ filter t ys) z) same (Contains-here y (filter t ys))
        | inr later ↦ Contains-later y x (filter t ys) (filter-to t ys x later e)
      ]
      | false ↦ λ f. elim (Contains-cases y x ys h) [
        | inl same ↦ absurd (both_ways (t x) (sym (ap t same) ∙ f) e)
        | inr later ↦ filter-to t ys x later e
      ]
    ] refl

kept-own : (r : Region) (had : Bool) (bs : List (Region × ℕ)) (x : ℕ) → Contains (kept r had bs) (r, x) → (had ≡ true) × Contains bs (r, x)
kept-own r true bs x h = (refl, h)
kept-own r false bs x h =
    let k = filter-from (λ e. not (same_region e.0 r)) bs (r, x) h in
    absurd (both_ways (same_region r r) (not-true (same_region r r) k.1) (same_region-refl r))

kept-back : (r : Region) (had : Bool) (bs : List (Region × ℕ)) (x : ℕ) → (had ≡ true) × Contains bs (r, x) → Contains (kept r had bs) (r, x)
kept-back r true bs x h = h.1
kept-back r false bs x h = absurd (false≢true h.0)

kept-other : (r s : Region) (had : Bool) (bs : List (Region × ℕ)) (x : ℕ) → Contains (kept r had bs) (s, x) → Contains bs (s, x)
kept-other r s true bs x h = h
kept-other r s false bs x h = (filter-from (λ e. not (same_region e.0 r)) bs (s, x) h).0

kept-others : (r s : Region) (had : Bool) (bs : List (Region × ℕ)) (x : ℕ) → (s ≡ r → ⊥) → Contains bs (s, x) → Contains (kept r had bs) (s, x)
kept-others r s true bs x off h = h
kept-others r s false bs x off h =
    filter-to (λ e. not (same_region e.0 r)) bs (s, x) h (not_from_false (same_region s r) (false_from_ne_true (same_region s r) (λ e. off (same_region-is s r e))))

module _ (site size : ℕ) (zeroed had : Bool) (base : ℕ) (p : Places) where
  abbrev r : Region
  r = Block site size zeroed

  abbrev q : Places
  q = gained r had base p

  own-base : (x : ℕ) → HasBase q r x → (x ≡ base) ⊎ ((had ≡ true) × HasBase p r x)
  own-base x h =
      elim (Contains-cases (r, base) (r, x) (kept r had p.blocks) h) [
        | inl same ↦ inl (sym (ap (λ (e : Region × ℕ). e.1) same))
        | inr later ↦ inr (kept-own r had p.blocks x later)
      ]

  base-own : (x : ℕ) → (x ≡ base) ⊎ ((had ≡ true) × HasBase p r x) → HasBase q r x
  base-own x (inl same) = subst (λ (z : ℕ). HasBase q r z) (sym same) (Contains-here (r, base) (kept r had p.blocks))
  base-own x (inr h) = Contains-later (r, base) (r, x) (kept r had p.blocks) (kept-back r had p.blocks x h)

  other-base : (s : Region) (x : ℕ) → (s ≡ r → ⊥) → HasBase q s x → HasBase p s x
  other-base Stack x off h = h
  other-base Fs x off h = h
  other-base Gs x off h = h
  other-base (Block a b c) x off h =
      elim (Contains-cases (r, base) (Block a b c, x) (kept r had p.blocks) h) [
        | inl same ↦ absurd (off (sym (ap (λ (e : Region × ℕ). e.0) same)))
        | inr later ↦ kept-other r (Block a b c) had p.blocks x later
      ]

  base-other : (s : Region) (x : ℕ) → (s ≡ r → ⊥) → HasBase p s x → HasBase q s x
  base-other Stack x off h = h
  base-other Fs x off h = h
  base-other Gs x off h = h
  base-other (Block a b c) x off h = Contains-later (r, base) (Block a b c, x) (kept r had p.blocks) (kept-others r (Block a b c) had p.blocks x off h)

  pub gains : GainsBlock r had base p q
  gains = record {
    windows = record { align = refl; stack = refl; fs = refl; gs = refl };
    own = λ x. (own-base x, base-own x);
    others = λ s x off. (other-base s x off, base-other s x off);
  }

  same-or-not : (s : Region) → (s ≡ r) ⊎ (s ≡ r → ⊥)
  same-or-not s =
      elim (cases_Bool (same_region s r)) [
        | inl e ↦ inl (same_region-is s r e)
        | inr e ↦ inr (λ k. false≢true (sym e ∙ ap (λ z. same_region z r) k ∙ same_region-refl r))
      ]

  -- what holds of the new base and of all that were, holds of each
  each-base : (P : Region → ℕ → Type 0) → P r base → ((s : Region) (x : ℕ) → HasBase p s x → P s x) → (s : Region) (x : ℕ) → HasBase q s x → P s x
  each-base P new old s x h =
      elim (same-or-not s) [
        | inl e ↦
            subst (λ (z : Region). P z x) (sym e) (elim (own-base x (subst (λ (z : Region). HasBase q z x) e h)) [
              | inl same ↦ subst (λ (z : ℕ). P r z) (sym same) new
              | inr had' ↦ old r x had'.1
            ])
        | inr off ↦ old s x (other-base s x off h)
      ]

  -- a block region with a count keeps its bases
  pub keeps-bases : (blocks : List Counted) (o : Option Region) → had ≡ is_counted r blocks → HasCount blocks o → KeepsBases o p q
  keeps-bases blocks None e h = tt
  keeps-bases blocks (Some s) e h = λ x has.
      elim (same-or-not s) [
        | inl k ↦
            let counted : is_counted r blocks ≡ true = subst (λ (z : Region). is_counted z blocks ≡ true) k h in
            subst (λ (z : Region). HasBase q z x) (sym k) (base-own x (inr (e ∙ counted, subst (λ (z : Region). HasBase p z x) k has)))
        | inr off ↦ base-other s x off has
      ]

  -- the places with the block's base fit a memory that has the block
  abbrev block : Range
  block = fresh_block base size

  block-end : end_of block ≡ base + size
  block-end = ap (λ n. base + n) (length-replicate size zero)

  module _ (image : Image) (m : MachineState) (lies : MayLie m block) (f : Fits image p m) where
    abbrev IsFar : Mapping → Type 0
    IsFar x = (x.low + x.size ≤ base) ⊎ (end_of block ≤ x.low)

    far : All IsFar (mappings m)
    far = All-map IsFar mapping_of (memory m) lies.apart

    far-at : (x : Mapping) → Contains (mappings m) x → IsFar x
    far-at x h = All-contains IsFar (mappings m) x far h

    at : IsRegionAt r base (mapping_of block)
    at = (let e = length-replicate size zero in record { low = omega (arith, ints); size = omega (arith, ints, e); write = refl; execute = refl })

    allowed : IsAllowed r base
    allowed = (let above = lies.user.above in let below = lies.user.below in let e = block-end in record { low = omega (arith, ints, above); high = omega (arith, ints, below, e) })

    abbrev Off : Region → ℕ → Region → ℕ → Type 0
    Off s x t y = ((pos x +ℤ high_of s) ≤ℤ (pos y +ℤ low_of t)) ⊎ ((pos y +ℤ high_of t) ≤ℤ (pos x +ℤ low_of s))

    old-off : (s : Region) (x : ℕ) → HasBase p s x → Off s x r base
    old-off s x h =
        let k = f.regions s x h in
        let low = k.is.low in let size = k.is.size in let e = block-end in
        elim (far-at k.mapping k.there) [ inl z ↦ inl (omega (arith, ints, low, size, z)) | inr z ↦ inr (omega (arith, ints, low, size, z, e)) ]

    new-off : (s : Region) (x : ℕ) → HasBase p s x → Off r base s x
    new-off s x h = elim (old-off s x h) [ inl z ↦ inr z | inr z ↦ inl z ]

    abbrev Clear : Range → Region → ℕ → Type 0
    Clear t s x = (pos (end_of t) ≤ℤ (pos x +ℤ low_of s)) ⊎ ((pos x +ℤ high_of s) ≤ℤ pos t.low)

    segment-clear : (t : Range) → Contains (mappings m) (mapping_of t) → Clear t r base
    segment-clear t h = (let e = block-end in elim (far-at (mapping_of t) h) [ inl z ↦ inl (omega (arith, ints, z)) | inr z ↦ inr (omega (arith, ints, z, e)) ])

    pub spread : IsSpread image.segments q
    spread = record {
      segments = λ k d l. each-base (λ s x. Clear (get_or image.segments k d) s x) (segment-clear (get_or image.segments k d) (f.segments k d l)) (f.spread.segments k d l);
      windows = λ s t x y h k.
          each-base (λ s x. (t : Region) (y : ℕ) → HasBase q t y → ((s ≡ t) × (x ≡ y)) ⊎ Off s x t y)
          (each-base (λ t y. ((r ≡ t) × (base ≡ y)) ⊎ Off r base t y) (inl (refl, refl)) (λ t y k. inr (new-off t y k)))
          (λ s x h. each-base (λ t y. ((s ≡ t) × (x ≡ y)) ⊎ Off s x t y) (inr (old-off s x h)) (λ t y k. f.spread.windows s t x y h k))
          s x h t y k;
    }

    pub valid : IsValid q
    valid = record { alignment = f.valid.alignment; aligned = f.valid.aligned; allowed = each-base IsAllowed allowed f.valid.allowed }

    bytes : HasBytes block
    bytes = zeros size
      where
        zeros : (n : ℕ) → All (λ b. b < 256) (replicate n zero)
        zeros zero = All-nil (λ b. b < 256)
        zeros (suc n) = All-cons (λ b. b < 256) 0 (replicate n zero) (omega arith) (zeros n)

    pub fits-fresh : Fits image p (with_block (Some block) m)
    fits-fresh = fits-more image p m block lies refl bytes f

    pub fits-gained : Fits image q (with_block (Some block) m)
    fits-gained =
        let g = fits-fresh in
        let n = with_block (Some block) m in
        let more : mappings n ≡ mappings m ++ mapping_of block ∷ [] = map-append mapping_of (memory m) (block ∷ []) in
        let there : Contains (mappings n) (mapping_of block) = subst (λ (ks : List Mapping). Contains ks (mapping_of block)) (sym more) (Contains-push (mappings m) (mapping_of block)) in
        record {
          valid = valid;
          align = g.align;
          fs = g.fs;
          gs = g.gs;
          stack = g.stack;
          regions = each-base (IsMappedAt (mappings n)) (record { mapping = mapping_of block; there = there; is = at }) g.regions;
          segments = g.segments;
          code = g.code;
          spread = spread;
          inside = g.inside;
          apart = g.apart;
          bytes = g.bytes;
        }

-- The places of a run, and what a machine state that they fit maps.
use Rattle.std.proofs.Common.{◌≡◌, ℕ, ◌+◌, ◌<◌, true, List, [], ◌∷◌, map, length, get_or, sym, ap, ◌∙◌, subst, arith, inl, inr}
use Rattle.std.specs.Prelude.{All, AllPairs, Contains, is_some}
use Rattle.std.specs.List.{list_any}
use Rattle.std.proofs.lemmas.Bool.{and_from, cases_Bool, false≢true, or_cases, or_left, or_right}
use Rattle.std.proofs.lemmas.List.Elements.{All-head, All-tail, All-weaker}
use Rattle.std.proofs.lemmas.List.{get_or-map, length-map}
use Rattle.std.proofs.lemmas.List.Folds.{list_any_at}
use Rattle.memory_map.specs.Image.{Image}
use Rattle.memory_map.specs.Range.{Mapping, Range, mapping_of, byte_at, has, may_write, AreApart, HasBytes, IsInUserSpace}
use Rattle.memory_map.specs.State.{MachineState, memory}
use Rattle.memory_map.proofs.Lists.{byte_at-none, byte_at-there}
use Rattle.memory_map.proofs.Mappings.{apart_mapped, inside_mapped, is_mapped, is_written, lies_at, only_mapping, writes_at}
use Rattle.address_regions.specs.declared.region.Region.TheVariants.{Stack}
use Rattle.address_regions.specs.Places.{Places}
use Rattle.partitioned_memory.specs.Describes.{IsApart}
use Rattle.partitioned_memory.proofs.Spread.{spread-apart}
use Rattle.abstract_state.specs.Describes.{Fits, IsMappedAt, IsRegionAt, mappings}

-- nothing but bytes is changed
pub record IsMappedAlike (m n : MachineState) : Type 0 where
  pub mapped : mappings n ≡ mappings m
  pub stack : mapping_of n.stack ≡ mapping_of m.stack
  pub fs : n.fs ≡ m.fs
  pub gs : n.gs ≡ m.gs

pub fits_kept : (image : Image) (p : Places) (m n : MachineState) → IsMappedAlike m n → All HasBytes (memory n) → Fits image p m → Fits image p n
fits_kept image p m n same bytes f =
    let back : mappings m ≡ mappings n = sym same.mapped in
    record {
      valid = f.valid;
      align = f.align;
      fs = same.fs ∙ f.fs;
      gs = same.gs ∙ f.gs;
      stack = subst (IsRegionAt Stack p.stack) (sym same.stack) f.stack;
      regions = λ r b h. subst (λ ks. IsMappedAt ks r b) back (f.regions r b h);
      segments = subst (λ ks. All (λ s. Contains ks (mapping_of s)) image.segments) back f.segments;
      code = subst (λ ks. All (λ x. x.execute ≡ true → Contains (map mapping_of image.segments) x) ks) back f.code;
      spread = f.spread;
      inside = inside_mapped (memory m) (memory n) back f.inside;
      apart = apart_mapped (memory m) (memory n) back f.apart;
      bytes = bytes;
    }

-- a byte of the segments that may be written in memory may be written in the segments
segment-written : (segments rs : List Range) (a : ℕ) → AllPairs AreApart rs → All (λ s. Contains (map mapping_of rs) (mapping_of s)) segments → is_some (byte_at segments a) ≡ true → may_write rs a ≡ true → may_write segments a ≡ true
segment-written [] rs a apart held e w = absurd (false≢true (sym (ap is_some (byte_at-none a)) ∙ e))
segment-written (s ∷ ss) rs a apart held e w =
    let first = All-head (λ s. Contains (map mapping_of rs) (mapping_of s)) s ss held in
    let rest = All-tail (λ s. Contains (map mapping_of rs) (mapping_of s)) s ss held in
    elim (cases_Bool (has a s)) [
      | inl h ↦
          let own : s.write ≡ true = only_mapping rs (mapping_of s) a apart first h w in
          is_written (s ∷ ss) a ∙ or_left (writes_at a (mapping_of s)) (list_any (writes_at a) (map mapping_of ss)) (and_from s.write (has a s) own h)
      | inr h ↦
          let later = segment-written ss rs a apart rest (sym (ap is_some (byte_at-there s ss a h)) ∙ e) w in
          is_written (s ∷ ss) a ∙ or_right (writes_at a (mapping_of s)) (list_any (writes_at a) (map mapping_of ss)) (sym (is_written ss a) ∙ later)
    ]

pub image-written : (image : Image) (p : Places) (m : MachineState) (a : ℕ) → Fits image p m → is_some (byte_at image.segments a) ≡ true → may_write (memory m) a ≡ true → may_write image.segments a ≡ true
image-written image p m a f e w = segment-written image.segments (memory m) a f.apart f.segments e w

-- a byte of the segments is mapped in memory
pub image-mapped : (image : Image) (p : Places) (m : MachineState) (a : ℕ) → Fits image p m → is_some (byte_at image.segments a) ≡ true → is_some (byte_at (memory m) a) ≡ true
image-mapped image p m a f e =
    is_mapped (memory m) a ∙ among image.segments f.segments (sym (is_mapped image.segments a) ∙ e)
  where
    among : (segments : List Range) → All (λ s. Contains (mappings m) (mapping_of s)) segments → list_any (lies_at a) (map mapping_of segments) ≡ true → list_any (lies_at a) (mappings m) ≡ true
    among [] held h = absurd (false≢true h)
    among (s ∷ ss) held h =
        elim (or_cases (has a s) (list_any (lies_at a) (map mapping_of ss)) h) [
          | inl own ↦
              let there = All-head (λ s. Contains (mappings m) (mapping_of s)) s ss held in
              list_any_at (lies_at a) (mappings m) there.0 (mapping_of s) there.1 (ap (lies_at a) there.2 ∙ own)
          | inr later ↦ among ss (All-tail (λ s. Contains (mappings m) (mapping_of s)) s ss held) later
        ]

-- the range of memory that a segment lies in
mapped-as : (P : Range → Type 0) (rs : List Range) (s : Range) → ((r s : Range) → mapping_of r ≡ mapping_of s → P r → P s) → Contains (map mapping_of rs) (mapping_of s) → All P rs → P s
mapped-as P rs s goes held h =
    let l : held.0 < length rs = omega (arith, held.1, length-map rs mapping_of) in
    goes (get_or rs held.0 s) s (sym (get_or-map mapping_of rs held.0 s (mapping_of s) l) ∙ held.2) (h held.0 s l)

pub segments-inside : (image : Image) (p : Places) (m : MachineState) → Fits image p m → All IsInUserSpace image.segments
segments-inside image p m f =
    All-weaker (λ s. Contains (mappings m) (mapping_of s)) IsInUserSpace (λ s held.
    mapped-as IsInUserSpace (memory m) s (λ r t q x. record { above = omega (arith, x.above, ap (λ (k : Mapping). k.low) q); below = omega (arith, x.below, ap (λ (k : Mapping). k.low + k.size) q) }) held f.inside)
    image.segments f.segments

pub fits-apart : (image : Image) (p : Places) (m : MachineState) → Fits image p m → IsApart image.segments p
fits-apart image p m f = spread-apart image.segments p f.valid (segments-inside image p m f) f.spread

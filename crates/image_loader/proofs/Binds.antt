-- What binding keeps: patched segments stay where they are, so that the unset bytes are mapped.
use Rattle.std.proofs.Common.{ℕ, zero, suc, ◌≡◌, ◌+◌, ◌<◌, ◌≤◌, Bool, true, false, cond, List, [], ◌∷◌, ◌++◌, length, map, take, get_or, refl, sym, ap, subst, ◌∙◌, arith, ⊎_elim, Option, Some, None}
use Rattle.std.specs.Prelude.{◌&&◌, ◌||◌, ◌==◌, not, nat_le, nat_lt, filter_map, IfSome, option_to_list, unwrap_or}
use Rattle.std.specs.List.{cons_option, enumerate_from, list_all, list_any}
use Rattle.std.proofs.lemmas.Bool.{and_parts, eqb-true, le-leb, leb-true, lt-ltb, or_cases, or_left, or_right, and_from}
use Rattle.std.proofs.lemmas.List.Sums.{fold_more}
use Rattle.std.proofs.lemmas.List.{length-map, take_more}
use Rattle.std.proofs.lemmas.List.Elements.{filter_map-append}
use Rattle.memory_map.specs.Alignment.{IsAlignment}
use Rattle.memory_map.specs.Image.{is_mapped}
use Rattle.memory_map.specs.Map.{is_allowed, permits}
use Rattle.memory_map.specs.Patch.{patched, put_word}
use Rattle.memory_map.specs.Range.{Range, end_of, has, holds, maps_all}
use Rattle.memory_map.specs.declared.import_name.ImportName.{ImportName}
use Rattle.memory_map.specs.declared.perm.Perm.{Perm}
use Rattle.memory_map.specs.declared.span.Span.{Span}
use Rattle.memory_map.proofs.Patching.{patched-low, patched-length}
use Rattle.memory_map.proofs.Reaching.{each_in, read-mapped}
use Rattle.file_pieces.specs.Found.{is_in_one}
use Rattle.elf32_reader.specs.Relocations.{is_inside}
use Rattle.elf32_reader.specs.declared.reloc.ElfReloc.{ElfReloc}
use Rattle.stub_file.specs.Stubs.{StatedStubs}
use Rattle.image_loader.specs.Binding.{is_unknown, names_from, numbered_name, relocated, unset_by, value_of, with_reloc, with_value}

-- bytes that are all in one range are mapped
held_any : (rs : List Range) (a n b : ℕ) → list_any (holds a n) rs ≡ true → a ≤ b → b < a + n → is_allowed rs (record { 0 = 1 }) b ≡ true
held_any [] a n b h low high = cc
held_any (r ∷ rs) a n b h low high =
    ⊎_elim
    (λ here.
    let parts = and_parts (nat_le r.low a) (nat_le (a + n) (end_of r)) here in
    let above = leb-true r.low a parts.0 in
    let below = leb-true (a + n) (end_of r) parts.1 in
    let inside : has b r ≡ true = and_from (nat_le r.low b) (nat_lt b (end_of r)) (le-leb r.low b (omega arith)) (lt-ltb b (end_of r) (omega arith)) in
    or_left (has b r && true) (is_allowed rs (record { 0 = 1 }) b) (and_from (has b r) true inside refl))
    (λ later. or_right (has b r && true) (is_allowed rs (record { 0 = 1 }) b) (held_any rs a n b later low high))
    (or_cases (holds a n r) (list_any (holds a n) rs) h)

pub mapped_in_one : (rs : List Range) (a n : ℕ) → is_in_one rs a n ≡ true → maps_all rs a n ≡ true
mapped_in_one rs a n h =
    each_in _ a n (λ b low high.
    sym (read-mapped rs b)
    ∙ ⊎_elim (λ none. absurd (omega (arith, low, high, eqb-true n 0 none))) (λ held. held_any rs a n b held low high) (or_cases (n == 0) (list_any (holds a n) rs) h))

-- a word put into a range leaves it where it is
same_holds : (x n a word : ℕ) (r : Range) → holds x n (patched a word r) ≡ holds x n r
same_holds x n a word r =
    ap (λ low. nat_le low x && nat_le (x + n) (low + length (patched a word r).bytes)) (patched-low a word r)
    ∙ ap (λ size. nat_le r.low x && nat_le (x + n) (r.low + size)) (patched-length a word r)

any_holds : (x n a word : ℕ) (rs : List Range) → list_any (holds x n) (put_word a word rs) ≡ list_any (holds x n) rs
any_holds x n a word [] = refl
any_holds x n a word (r ∷ rs) = ap (λ t. t || list_any (holds x n) (put_word a word rs)) (same_holds x n a word r) ∙ ap (λ t. holds x n r || t) (any_holds x n a word rs)

module _ (stubs : StatedStubs) (names : List (List ℕ)) where
  same_in_one : (x n : ℕ) (o : Option ℕ) (r : ElfReloc) (rs : List Range) → is_in_one (with_value o r rs) x n ≡ is_in_one rs x n
  same_in_one x n None r rs = refl
  same_in_one x n (Some s) r rs = ap (λ t. n == 0 || t) (any_holds x n r.at _ rs)

  relocated-nil : (rs : List Range) → relocated stubs names rs [] ≡ rs
  unfolding relocated
  relocated-nil rs = refl

  relocated-cons : (rs : List Range) (r : ElfReloc) (relocs : List ElfReloc) → relocated stubs names rs (r ∷ relocs) ≡ relocated stubs names (with_reloc stubs names rs r) relocs
  unfolding relocated
  relocated-cons rs r relocs = refl

  pub relocated-none : (rs : List Range) → rs ≡ relocated stubs names rs []
  relocated-none rs = sym (relocated-nil rs)

  pub relocated-more : (rs held : List Range) (relocs : List ElfReloc) (i : ℕ) (d : ElfReloc) → i < length relocs
      → held ≡ with_reloc stubs names (relocated stubs names rs (take i relocs)) (get_or relocs i d) → held ≡ relocated stubs names rs (take (i + 1) relocs)
  unfolding relocated
  relocated-more rs held relocs i d lt h = h ∙ sym (fold_more (with_reloc stubs names) rs relocs i d lt)

  stays : (x n : ℕ) (relocs : List ElfReloc) (rs : List Range) → is_in_one (relocated stubs names rs relocs) x n ≡ is_in_one rs x n
  stays x n [] rs = ap (λ l. is_in_one l x n) (relocated-nil rs)
  stays x n (r ∷ relocs) rs =
      ap (λ l. is_in_one l x n) (relocated-cons rs r relocs) ∙ stays x n relocs (with_reloc stubs names rs r) ∙ same_in_one x n (value_of stubs names r.symbol) r rs

  -- the unset bytes are mapped, since each relocated range is in one segment
  module _ (ranges : List Range) (all : List ElfReloc) where
    one_more : (t : Bool) (r : ElfReloc) (rest : List Span) → is_inside ranges r ≡ true → list_all (is_mapped (relocated stubs names ranges all)) rest ≡ true
        → list_all (is_mapped (relocated stubs names ranges all)) (cons_option (cond t (Some (record { low = r.at; size = r.size })) None) rest) ≡ true
    one_more true r rest inside h =
        and_from (is_mapped (relocated stubs names ranges all) (record { low = r.at; size = r.size })) (list_all (is_mapped (relocated stubs names ranges all)) rest)
        (mapped_in_one (relocated stubs names ranges all) r.at r.size (stays r.at r.size all ranges ∙ inside)) h
    one_more false r rest inside h = h

    pub unset-mapped : (relocs : List ElfReloc) → list_all (is_inside ranges) relocs ≡ true → list_all (is_mapped (relocated stubs names ranges all)) (filter_map unset_by relocs) ≡ true
    unset-mapped [] h = refl
    unset-mapped (r ∷ relocs) h =
        let parts = and_parts (is_inside ranges r) (list_all (is_inside ranges) relocs) h in
        one_more (is_unknown r.symbol && not (r.size == 0)) r (filter_map unset_by relocs) parts.0 (unset-mapped relocs parts.1)

pub length-enumerate_from : {X : Type 0} (i : ℕ) (xs : List X) → length (enumerate_from i xs) ≡ length xs
length-enumerate_from i [] = refl
length-enumerate_from i (x ∷ xs) = ap suc (length-enumerate_from (i + 1) xs)

pub length-names_from : (stubs : StatedStubs) (relocs : List ElfReloc) (i : ℕ) (names : List (List ℕ)) → length (names_from stubs relocs i names) ≡ length names
length-names_from stubs relocs i names = length-map (enumerate_from i names) (numbered_name stubs relocs) ∙ length-enumerate_from i names

-- an alignment that is stated is one, and so is the other
pub aligned : (o : Option ℕ) (d : ℕ) → IsAlignment d → IfSome o IsAlignment → IsAlignment (unwrap_or o d)
aligned None d h k = h
aligned (Some n) d h k = k

pub unset-more : (relocs : List ElfReloc) (held : List Span) (i : ℕ) (d : ElfReloc) → i < length relocs → held ≡ filter_map unset_by (take i relocs) ++ option_to_list (unset_by (get_or relocs i d))
    → held ≡ filter_map unset_by (take (i + 1) relocs)
unset-more relocs held i d lt h =
    h
    ∙ ap (λ l. filter_map unset_by (take i relocs) ++ l) (one (unset_by (get_or relocs i d)))
    ∙ sym (filter_map-append unset_by (take i relocs) (get_or relocs i d ∷ []))
    ∙ sym (ap (filter_map unset_by) (take_more relocs i d lt))
  where
    one : (o : Option Span) → option_to_list o ≡ cons_option o []
    one None = refl
    one (Some s) = refl

-- What a walk leaves lies in one segment, and imports names that it has.
use Rattle.std.proofs.Common.{ℕ, ◌≡◌, ◌+◌, ◌<◌, ◌≤◌, Bool, true, false, cond, List, [], ◌∷◌, length, Option, Some, None, refl, sym, ap, ◌∙◌, arith, subst}
use Rattle.std.specs.Prelude.{◌&&◌, ◌||◌, ◌==◌, not, nat_le, nat_eq, Result, Ok, Err}
use Rattle.std.specs.List.{list_all, list_any, position_or_len}
use Rattle.std.specs.Cmp.Lexicographic.{pointwise}
use Rattle.std.proofs.lemmas.Bool.{lt-ltb, ltb-true, and_parts}
use Rattle.std.proofs.lemmas.List.{length-append}
use Rattle.memory_map.specs.Range.{Range}
use Rattle.file_pieces.specs.Found.{is_in_one}
use Rattle.memory_map.specs.Name.{MOST_NAMES}
use Rattle.file_pieces.specs.Names.{index_of, is_named, with_name}
use Rattle.file_pieces.proofs.NameLists.{list_all-push, with_name-old, with_name-new}
use Rattle.elf32_reader.specs.declared.fault.ElfFault.{ElfFault}
use Rattle.elf32_reader.specs.declared.entry.Entry.{Entry}
use Rattle.elf32_reader.specs.declared.symbol.Symbol.{Symbol}
use Rattle.elf32_reader.specs.declared.reloc.ElfReloc.{ElfReloc}
use Rattle.elf32_reader.specs.declared.reloc.RelocSymbol.{RelocSymbol}
use Rattle.elf32_reader.specs.declared.reloc.RelocSymbol.TheVariants.{Value, Import, Weak, Unset}
use Rattle.elf32_reader.specs.Symbols.{Space, import_name, imported, is_undefined, is_weak, address_sum}
use Rattle.elf32_reader.specs.Relocations.{NONE, RELATIVE, kind_of, uses_value, place_of, size_of, is_import, own_symbol, reloc_of, is_inside, is_name_below, has_name_below}
use Rattle.elf32_reader.specs.Walk.{all_entries, nothing, Walked, walk, walked_on, step, step_import, step_symbol, steps, symbol_for}
use Rattle.elf32_reader.specs.ElfFile.{unless}

-- what relocations and names keep
pub record IsKept (ranges : List Range) (w : Walked) : Type 0 where
  pub inside : list_all (is_inside ranges) w.relocs ≡ true
  pub named : list_all (has_name_below (length w.names)) w.relocs ≡ true

-- an index below one count is below a greater one
below_more : (a b : ℕ) (m : RelocSymbol) → a ≤ b → is_name_below a m ≡ true → is_name_below b m ≡ true
below_more a b (Value v) h k = refl
below_more a b (Import i) h k = lt-ltb i b (omega (arith, ltb-true i a k, h))
below_more a b (Weak i) h k = lt-ltb i b (omega (arith, ltb-true i a k, h))
below_more a b Unset h k = refl

all_below_more : (a b : ℕ) (rs : List ElfReloc) → a ≤ b → list_all (has_name_below a) rs ≡ true → list_all (has_name_below b) rs ≡ true
all_below_more a b [] h k = refl
all_below_more a b (r ∷ rs) h k =
    let parts = and_parts (has_name_below a r) (list_all (has_name_below a) rs) k in
    ap (λ t. t && list_all (has_name_below b) rs) (below_more a b r.symbol h parts.0) ∙ all_below_more a b rs h parts.1

-- a symbol that is no import has no name
own_below : (count bias kind : ℕ) (symbol : Symbol) → is_name_below count (own_symbol bias kind symbol) ≡ true
own_below count bias kind symbol = by (uses_value kind) (is_undefined symbol || nat_le 0xFF00 symbol.section) (kind == RELATIVE)
  where
    by : (t u v : Bool) → is_name_below count (cond t (cond u Unset (Value (address_sum bias symbol.value))) (cond v (Value 0) Unset)) ≡ true
    by true true v = refl
    by true false v = refl
    by false u true = refl
    by false u false = refl

imported_below : (count i : ℕ) (symbol : Symbol) → i < count → is_name_below count (imported symbol i) ≡ true
imported_below count i symbol h = by (is_weak symbol)
  where
    by : (t : Bool) → is_name_below count (cond t (Weak i) (Import i)) ≡ true
    by true = lt-ltb i count h
    by false = lt-ltb i count h

position-le : {X : Type 0} (p : X → Bool) (xs : List X) → position_or_len p xs ≤ length xs
position-le p [] = omega arith
position-le {X} p (x ∷ xs) = by (p x) (position-le p xs)
  where
    by : (t : Bool) → position_or_len p xs ≤ length xs → cond (not t) (1 + position_or_len p xs) 0 ≤ length (x ∷ xs)
    by true h = omega arith
    by false h = omega (arith, h)

position-lt : {X : Type 0} (p : X → Bool) (xs : List X) → list_any p xs ≡ true → position_or_len p xs < length xs
position-lt p [] h = cc
position-lt {X} p (x ∷ xs) h = by (p x) (position-lt p xs) h
  where
    by : (t : Bool) → (list_any p xs ≡ true → position_or_len p xs < length xs) → (t || list_any p xs) ≡ true → cond (not t) (1 + position_or_len p xs) 0 < length (x ∷ xs)
    by true rest g = omega arith
    by false rest g = omega (arith, rest g)

is_named-any : (names : List (List ℕ)) (name : List ℕ) → is_named names name ≡ list_any (pointwise nat_eq name) names
unfolding is_named
is_named-any names name = refl

index_of-position : (names : List (List ℕ)) (name : List ℕ) → index_of names name ≡ position_or_len (pointwise nat_eq name) names
unfolding index_of
index_of-position names name = refl

-- the index of a name is one of the names with it, and these are no fewer
index_below : (names : List (List ℕ)) (name : List ℕ) → (index_of names name < length (with_name names name)) × (length names ≤ length (with_name names name))
index_below names name = by (is_named names name) refl
  where
    by : (t : Bool) → is_named names name ≡ t → (index_of names name < length (with_name names name)) × (length names ≤ length (with_name names name))
    by true e =
        let same = ap length (with_name-old names name e) in
        let at = position-lt (pointwise nat_eq name) names (sym (is_named-any names name) ∙ e) in
        (omega (arith, same, at, index_of-position names name), omega (arith, same))
    by false e =
        let more = ap length (with_name-new names name e) in
        let at = position-le (pointwise nat_eq name) names in
        (omega (arith, more, length-append names (name ∷ []), at, index_of-position names name), omega (arith, more, length-append names (name ∷ [])))

-- one relocation more
kept_on : (s : Space) (w : Walked) (e : Entry) (symbol : Symbol) (m : RelocSymbol) (names : List (List ℕ)) → IsKept s.ranges w → is_in_one s.ranges (place_of s.bias e) (size_of (kind_of e) symbol) ≡ true → length w.names ≤ length names → is_name_below (length names) m ≡ true → IsKept s.ranges (walked_on s w e symbol m names)
kept_on s w e symbol m names h inside more below = record {
  inside = list_all-push (is_inside s.ranges) w.relocs (reloc_of s.bias e symbol m) h.inside inside;
  named = list_all-push (has_name_below (length names)) w.relocs (reloc_of s.bias e symbol m) (all_below_more (length w.names) (length names) w.relocs more h.named) below;
}

module _ (s : Space) (w : Walked) (e : Entry) (v : Walked) (h : IsKept s.ranges w) where
  ended : (x : Walked) → ◌≡◌ {A = Result Walked ElfFault} (Ok x) (Ok v) → IsKept s.ranges x → IsKept s.ranges v
  ended x same k =
      let e : x ≡ v = cc in
      let Kept : Walked → Type 0 = λ (y : Walked). IsKept s.ranges y in
      subst Kept e k

  import_kept : (symbol : Symbol) (name : Option (List ℕ)) → is_in_one s.ranges (place_of s.bias e) (size_of (kind_of e) symbol) ≡ true → step_import s w e symbol name ≡ Ok v → IsKept s.ranges v
  import_kept symbol None inside g = cc
  import_kept symbol (Some name) inside g = by (not (is_named w.names name) && nat_le MOST_NAMES (length w.names)) g
    where
      by : (t : Bool) → cond t (Err ElfFault.ManyImports) (Ok (walked_on s w e symbol (imported symbol (index_of w.names name)) (with_name w.names name))) ≡ Ok v → IsKept s.ranges v
      by true g = cc
      by false g =
          let below = index_below w.names name in
          ended (walked_on s w e symbol (imported symbol (index_of w.names name)) (with_name w.names name)) g
          (kept_on s w e symbol (imported symbol (index_of w.names name)) (with_name w.names name) h inside below.1 (imported_below (length (with_name w.names name)) (index_of w.names name) symbol below.0))

  symbol_kept : (o : Option Symbol) → step_symbol s w e o ≡ Ok v → IsKept s.ranges v
  symbol_kept None g = cc
  symbol_kept (Some symbol) g = by (is_in_one s.ranges (place_of s.bias e) (size_of (kind_of e) symbol)) refl (is_import (kind_of e) symbol) g
    where
      by : (t : Bool) → is_in_one s.ranges (place_of s.bias e) (size_of (kind_of e) symbol) ≡ t → (u : Bool) → cond (not t) (Err ElfFault.RelocOutside) (cond u (step_import s w e symbol (import_name s symbol)) (Ok (walked_on s w e symbol (own_symbol s.bias (kind_of e) symbol) w.names))) ≡ Ok v → IsKept s.ranges v
      by false inside u g = cc
      by true inside true g = import_kept symbol (import_name s symbol) inside g
      by true inside false g =
          ended (walked_on s w e symbol (own_symbol s.bias (kind_of e) symbol) w.names) g
          (kept_on s w e symbol (own_symbol s.bias (kind_of e) symbol) w.names h inside (omega arith) (own_below (length w.names) s.bias (kind_of e) symbol))

  step_kept : step s w e ≡ Ok v → IsKept s.ranges v
  unfolding step
  step_kept g = by (kind_of e == NONE) g
    where
      by : (t : Bool) → cond t (Ok w) (step_symbol s w e (symbol_for s e)) ≡ Ok v → IsKept s.ranges v
      by true g = ended w g h
      by false g = symbol_kept (symbol_for s e) g

steps_kept : (s : Space) (r : Result Walked ElfFault) (es : List Entry) (v : Walked) → ((w : Walked) → r ≡ Ok w → IsKept s.ranges w) → steps s r es ≡ Ok v → IsKept s.ranges v
unfolding steps
steps_kept s r [] v kept g = kept v g
steps_kept s (Err fault) (e ∷ es) v kept g = steps_kept s (Err fault) es v (λ w h. cc) g
steps_kept s (Ok w) (e ∷ es) v kept g = steps_kept s (step s w e) es v (λ x h. step_kept s w e x (kept w refl) h) g

pub walk_kept : (s : Space) (o : Option ElfFault) (v : Walked) → unless o (walk s) ≡ Ok v → IsKept s.ranges v
unfolding walk
walk_kept s (Some fault) v g = cc
walk_kept s None v g =
    let Kept : Walked → Type 0 = λ (y : Walked). IsKept s.ranges y in
    let start : IsKept s.ranges nothing = record { inside = refl; named = refl } in
    steps_kept s (Ok nothing) (all_entries s) v (λ w h. let same : nothing ≡ w = cc in subst Kept same start) g

-- the same by the parts of a walk
pub kept_parts : (s : Space) (o : Option ElfFault) (v : Walked) (relocs : List ElfReloc) (names : List (List ℕ)) → unless o (walk s) ≡ Ok v → relocs ≡ v.relocs → names ≡ v.names → IsKept s.ranges (record { relocs = relocs; names = names })
kept_parts s o v relocs names g at at' =
    let OfRelocs : List ElfReloc → Type 0 = λ (l : List ElfReloc). IsKept s.ranges (record { relocs = l; names = names }) in
    let OfNames : List (List ℕ) → Type 0 = λ (l : List (List ℕ)). IsKept s.ranges (record { relocs = v.relocs; names = l }) in
    subst OfRelocs (sym at) (subst OfNames (sym at') (walk_kept s o v g))

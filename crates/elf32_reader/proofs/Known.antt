-- The indexes of imported names, kept by where symbols have the names: each stays when a name more goes last.
use Rattle.std.proofs.Common.{ℕ, ◌≡◌, ◌+◌, ◌<◌, ◌≤◌, inl, inr, Bool, true, false, cond, List, [], ◌∷◌, ◌++◌, Option, Some, None, refl, sym, ap, ◌∙◌, subst}
use Rattle.std.specs.Prelude.{◌&&◌, ◌||◌, ◌==◌, not, nat_eq, nat_le, length, Result, Ok, Err, MatchResult, OnOk}
use Rattle.memory_map.specs.Name.{MOST_NAMES}
use Rattle.std.specs.BTreeMap.{get}
use Rattle.std.specs.Ordering.{nat_cmp}
use Rattle.std.specs.List.{list_any, position_or_len}
use Rattle.std.specs.Cmp.Lexicographic.{pointwise}
use Rattle.std.proofs.lemmas.Bool.{cases_Bool, eq-eqb, eqb-true, or_left, or_right}
use Rattle.std.proofs.lemmas.List.Folds.{list_any-append}
use Rattle.file_pieces.specs.Names.{index_of, is_named, with_name}
use Rattle.file_pieces.proofs.NameLists.{with_name-new, with_name-old}
use Rattle.elf32_reader.specs.declared.fault.ElfFault.{ElfFault}
use Rattle.elf32_reader.specs.declared.known_names.KnownNames.{KnownNames}
use Rattle.elf32_reader.specs.declared.entry.Entry.{Entry}
use Rattle.elf32_reader.specs.declared.symbol.Symbol.{Symbol}
use Rattle.elf32_reader.specs.declared.reloc.ElfReloc.{ElfReloc}
use Rattle.elf32_reader.specs.declared.reloc.RelocSymbol.{RelocSymbol}
use Rattle.elf32_reader.specs.Relocations.{reloc_of}
use Rattle.elf32_reader.specs.Symbols.{Space, import_name, imported}
use Rattle.elf32_reader.specs.KnownNames.{AreKnown, HasIndex}
use Rattle.elf32_reader.specs.Walk.{Walked, step_import, walked_on}

-- ---- names with one more at their end

module _ {X : Type 0} (p : X → Bool) where
  place_stays : (xs : List X) (x : X) → (list_any p xs || p x) ≡ true → position_or_len p (xs ++ x ∷ []) ≡ position_or_len p xs
  place_stays [] x h = ap (λ b. cond (not b) 1 0) h
  place_stays (y ∷ ys) x h = by (p y) (place_stays ys x) h
    where
      by : (b : Bool) → ((list_any p ys || p x) ≡ true → position_or_len p (ys ++ x ∷ []) ≡ position_or_len p ys)
          → ((b || list_any p ys) || p x) ≡ true → cond (not b) (1 + position_or_len p (ys ++ x ∷ [])) 0 ≡ cond (not b) (1 + position_or_len p ys) 0
      by true rest g = refl
      by false rest g = ap (λ n. 1 + n) (rest g)

same_name : (name : List ℕ) → pointwise nat_eq name name ≡ true
same_name [] = refl
same_name (b ∷ name) = ap (λ t. t && pointwise nat_eq name name) (eq-eqb b b refl) ∙ same_name name

named_by : (names : List (List ℕ)) (more name : List ℕ) → (is_named names name || pointwise nat_eq name more) ≡ true → is_named (names ++ more ∷ []) name ≡ true
unfolding is_named
named_by names more name h = list_any-append (pointwise nat_eq name) names (more ∷ []) ∙ or_end (is_named names name) (pointwise nat_eq name more) h
  where
    or_end : (b c : Bool) → (b || c) ≡ true → (b || (c || false)) ≡ true
    or_end true c g = refl
    or_end false true g = refl
    or_end false false g = g

index_by : (names : List (List ℕ)) (more name : List ℕ) → (is_named names name || pointwise nat_eq name more) ≡ true → index_of (names ++ more ∷ []) name ≡ index_of names name
unfolding is_named index_of
index_by names more name h = place_stays (pointwise nat_eq name) names more h

-- ---- what is kept

has_more : (s : Space) (names : List (List ℕ)) (more : List ℕ) (offset index : ℕ) → HasIndex s names offset index → HasIndex s (with_name names more) offset index
has_more s names more offset index h =
    let In : List (List ℕ) → Type 0 = λ l. HasIndex s l offset index in
    elim (cases_Bool (is_named names more)) [
      | inl there ↦ subst In (sym (with_name-old names more there)) h
      | inr new ↦
          let some = or_left (is_named names h.name) (pointwise nat_eq h.name more) h.named in
          let has : HasIndex s (names ++ more ∷ []) offset index = record {
            name = h.name;
            found = h.found;
            named = named_by names more h.name some;
            is = index_by names more h.name some ∙ h.is;
          } in
          subst In (sym (with_name-new names more new)) has
    ]

same_offset : (s : Space) (symbol other : Symbol) → other.name ≡ symbol.name → import_name s other ≡ import_name s symbol
unfolding import_name
same_offset s symbol other e = ap (λ (n : ℕ). import_name s (record { name = n; value = 0; size = 0; info = 0; section = 0 })) e

has_new : (s : Space) (names : List (List ℕ)) (symbol : Symbol) (name : List ℕ) → import_name s symbol ≡ Some name → HasIndex s (with_name names name) symbol.name (index_of names name)
has_new s names symbol name found =
    let In : List (List ℕ) → Type 0 = λ l. HasIndex s l symbol.name (index_of names name) in
    let by = λ (other : Symbol) (e : other.name ≡ symbol.name). same_offset s symbol other e ∙ found in
    elim (cases_Bool (is_named names name)) [
      | inl there ↦
          let has : HasIndex s names symbol.name (index_of names name) = record { name = name; found = by; named = there; is = refl } in
          subst In (sym (with_name-old names name there)) has
      | inr new ↦
          let some = or_right (is_named names name) (pointwise nat_eq name name) (same_name name) in
          let has : HasIndex s (names ++ name ∷ []) symbol.name (index_of names name) = record {
            name = name;
            found = by;
            named = named_by names name name some;
            is = index_by names name name some;
          } in
          subst In (sym (with_name-new names name new)) has
    ]

pub none_known : (s : Space) (names : List (List ℕ)) (known : KnownNames) → ((offset : ℕ) → get nat_cmp known.indexes offset ≡ None) → AreKnown s names known
none_known s names known none = record { each = λ offset index h. absurd (no (get nat_cmp known.indexes offset) index (none offset) h) }
  where
    no : (o : Option ℕ) (index : ℕ) → o ≡ None → o ≡ Some index → ⊥
    no o index e f = cc

pub known_more : (s : Space) (names now : List (List ℕ)) (old known : KnownNames) (symbol : Symbol) (name : List ℕ) (index : ℕ)
    → AreKnown s names old → import_name s symbol ≡ Some name → index ≡ index_of names name → now ≡ with_name names name
    → ((other : ℕ) → get nat_cmp known.indexes other ≡ cond (symbol.name == other) (Some index) (get nat_cmp old.indexes other)) → AreKnown s now known
known_more s names now old known symbol name index h found at more put =
    let In : List (List ℕ) → Type 0 = λ l. AreKnown s l known in
    let all : AreKnown s (with_name names name) known = record { each = λ offset i is. by offset i (symbol.name == offset) refl (sym (put offset) ∙ is) } in
    subst In (sym more) all
  where
    by : (offset i : ℕ) (b : Bool) → (symbol.name == offset) ≡ b → cond b (Some index) (get nat_cmp old.indexes offset) ≡ Some i → HasIndex s (with_name names name) offset i
    by offset i true same is =
        let here : index ≡ i = cc in
        let At : ℕ → Type 0 = λ n. HasIndex s (with_name names name) n i in
        let Is : ℕ → Type 0 = λ n. HasIndex s (with_name names name) symbol.name n in
        subst At (eqb-true symbol.name offset same) (subst Is (sym at ∙ here) (has_new s names symbol name found))
    by offset i false other is = has_more s names name offset i (h.each offset i is)

known_same : (s : Space) (names now : List (List ℕ)) (known : KnownNames) → AreKnown s names known → now ≡ names → AreKnown s now known
known_same s names now known h same = (let In : List (List ℕ) → Type 0 = λ l. AreKnown s l known in subst In (sym same) h)

-- an import whose name is known
known_step : (s : Space) (w next : Walked) (e : Entry) (symbol : Symbol) (index : ℕ) → HasIndex s w.names symbol.name index → next ≡ walked_on s w e symbol (imported symbol index) w.names → step_import s w e symbol (import_name s symbol) ≡ Ok next
known_step s w next e symbol index h on =
    ap (step_import s w e symbol) (h.found symbol refl)
    ∙ ap (λ t. cond (not t && nat_le MOST_NAMES (length w.names)) (Err ElfFault.ManyImports) (Ok (walked_on s w e symbol (imported symbol (index_of w.names h.name)) (with_name w.names h.name)))) h.named
    ∙ ap (λ (l : List (List ℕ)). Ok (walked_on s w e symbol (imported symbol (index_of w.names h.name)) l)) (with_name-old w.names h.name h.named)
    ∙ ap (λ n. Ok (walked_on s w e symbol (imported symbol n) w.names)) h.is
    ∙ ap (λ (n : Walked). Ok n) (sym on)

-- what is kept after a name more is pushed
pub known_pushed : (s : Space) (w next : Walked) (relocs : List ElfReloc) (before names : List (List ℕ)) (reloc : ElfReloc) (old known : KnownNames) (symbol : Symbol) (name : List ℕ) (index : ℕ)
    → record { relocs = relocs; names = before } ≡ w → AreKnown s w.names old → import_name s symbol ≡ Some name
    → (index ≡ index_of before name) × (names ≡ with_name before name) × (index < length names) × (length names ≤ MOST_NAMES)
    → ((other : ℕ) → get nat_cmp known.indexes other ≡ cond (symbol.name == other) (Some index) (get nat_cmp old.indexes other))
    → next ≡ record { relocs = relocs ++ reloc ∷ []; names = names } → AreKnown s next.names known
known_pushed s w next relocs before names reloc old known symbol name index view h found at put on =
    let same : before ≡ w.names = ap (λ (v : Walked). v.names) view in
    known_more s w.names next.names old known symbol name index h found
    (at.0 ∙ ap (λ (l : List (List ℕ)). index_of l name) same)
    (ap (λ (v : Walked). v.names) on ∙ at.1 ∙ ap (λ (l : List (List ℕ)). with_name l name) same)
    put

pub on_ok : {T : Type 0} (r : Result T ElfFault) (A P : Type 0) (Q : ElfFault → Type 0) → (A → P) → MatchResult r (λ _. A) Q → OnOk r P
on_ok (Ok x) A P Q f h = f h
on_ok (Err e) A P Q f h = tt

-- the same where names stay
pub known_kept : {T : Type 0} (r : Result T ElfFault) (s : Space) (names now : List (List ℕ)) (known : KnownNames) → AreKnown s names known → OnOk r (now ≡ names) → OnOk r (AreKnown s now known)
known_kept (Ok x) s names now known h same = known_same s names now known h same
known_kept (Err e) s names now known h same = tt

pub pushed_known : (s : Space) (w next : Walked) (e : Entry) (symbol : Symbol) (index bias : ℕ) (meaning : RelocSymbol) (reloc : ElfReloc) → HasIndex s w.names symbol.name index
    → meaning ≡ imported symbol index → bias ≡ s.bias → reloc ≡ reloc_of bias e symbol meaning → next ≡ record { relocs = w.relocs ++ reloc ∷ []; names = w.names } → step_import s w e symbol (import_name s symbol) ≡ Ok next
pushed_known s w next e symbol index bias meaning reloc h means same is on =
    known_step s w next e symbol index h
    (on ∙ ap (λ (r : ElfReloc). record { relocs = w.relocs ++ r ∷ []; names = w.names }) (is ∙ ap (λ b. reloc_of b e symbol meaning) same ∙ ap (reloc_of s.bias e symbol) means))

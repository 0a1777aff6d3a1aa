-- The walk, step by step.
use Rattle.std.proofs.Common.{ℕ, suc, ◌≡◌, ◌⊎◌, ◌+◌, ◌-◌, ◌<◌, ◌≤◌, inl, inr, Bool, true, false, cond, List, [], ◌∷◌, ◌++◌, length, map, Some, refl, sym, ap, ◌∙◌, arith, subst}
use Rattle.std.specs.Prelude.{◌&&◌, not, nat_le, unwrap_or, Result, Ok, Err, MatchResult}
use Rattle.std.specs.List.{range_with_len}
use Rattle.std.proofs.lemmas.Bool.{leb-true}
use Rattle.std.proofs.lemmas.List.{length-append}
use Rattle.std.proofs.lemmas.List.Sums.{fold-append}
use Rattle.memory_map.specs.Name.{MOST_NAMES}
use Rattle.file_pieces.specs.Names.{index_of, is_named, with_name}
use Rattle.file_pieces.proofs.NameLists.{with_name-new}
use Rattle.elf32_reader.specs.declared.fault.ElfFault.{ElfFault}
use Rattle.elf32_reader.specs.declared.entry.Entry.{Entry}
use Rattle.elf32_reader.specs.declared.symbol.Symbol.{Symbol}
use Rattle.elf32_reader.specs.declared.reloc.ElfReloc.{ElfReloc}
use Rattle.elf32_reader.specs.declared.reloc.RelocSymbol.{RelocSymbol}
use Rattle.elf32_reader.specs.Symbols.{Space, imported}
use Rattle.elf32_reader.specs.Relocations.{reloc_of}
use Rattle.elf32_reader.specs.Dynamic.{table_at, rel_bytes, jmprel_bytes}
use Rattle.elf32_reader.specs.Walk.{all_entries, entries, Walked, walked_on, step, step_after, step_import, steps}

-- a name that finds a place is not one too many
not_full : (names : List (List ℕ)) (name : List ℕ) → length (with_name names name) ≤ MOST_NAMES → (not (is_named names name) && nat_le MOST_NAMES (length names)) ≡ false
not_full names name few = by (is_named names name) refl (nat_le MOST_NAMES (length names)) refl
  where
    by : (t : Bool) → is_named names name ≡ t → (u : Bool) → nat_le MOST_NAMES (length names) ≡ u → (not t && u) ≡ false
    by true e u f = refl
    by false e false f = refl
    by false e true f =
        let longer = ap length (with_name-new names name e) in
        absurd (omega (arith, longer, length-append names (name ∷ []), leb-true MOST_NAMES (length names) f, few))

pub match_push : {T : Type 0} (r : Result T ElfFault) (A P : Type 0) (Q : ElfFault → Type 0) → (A → P) → MatchResult r (λ _. A) (λ e. e ≡ ElfFault.Memory) → MatchResult r (λ _. P) (λ e. (e ≡ ElfFault.Memory) ⊎ Q e)
match_push (Ok x) A P Q f h = f h
match_push (Err e) A P Q f h = inl h

imported_step : (s : Space) (w next : Walked) (e : Entry) (symbol : Symbol) (name : List ℕ) (index : ℕ) (meaning : RelocSymbol) (reloc : ElfReloc) (names : List (List ℕ)) → index ≡ index_of w.names name → names ≡ with_name w.names name → length names ≤ MOST_NAMES → meaning ≡ imported symbol index → reloc ≡ reloc_of s.bias e symbol meaning → next ≡ record { relocs = w.relocs ++ reloc ∷ []; names = names } → step_import s w e symbol (Some name) ≡ Ok next
imported_step s w next e symbol name index meaning reloc names at more few means is on =
    let Few : List (List ℕ) → Type 0 = λ (l : List (List ℕ)). length l ≤ MOST_NAMES in
    let there : meaning ≡ imported symbol (index_of w.names name) = means ∙ ap (imported symbol) at in
    let here : reloc ≡ reloc_of s.bias e symbol (imported symbol (index_of w.names name)) = is ∙ ap (reloc_of s.bias e symbol) there in
    let last = Ok (walked_on s w e symbol (imported symbol (index_of w.names name)) (with_name w.names name)) in
    ap (λ t. cond t (Err ElfFault.ManyImports) last) (not_full w.names name (subst Few more few))
    ∙ ap (λ (n : Walked). Ok n) (ap (λ (r : ElfReloc). record { relocs = w.relocs ++ r ∷ []; names = with_name w.names name }) (sym here) ∙ ap (λ (l : List (List ℕ)). record { relocs = w.relocs ++ reloc ∷ []; names = l }) (sym more) ∙ sym on)

-- the same of a walk by its parts
pub imported_name : (s : Space) (relocs : List ElfReloc) (before : List (List ℕ)) (w next : Walked) (e : Entry) (symbol : Symbol) (name : List ℕ) (index : ℕ) (meaning : RelocSymbol) (bias : ℕ) (reloc : ElfReloc) (names : List (List ℕ))
    → record { relocs = relocs; names = before } ≡ w → (index ≡ index_of before name) × (names ≡ with_name before name) × (index < length names) × (length names ≤ MOST_NAMES) → meaning ≡ imported symbol index → bias ≡ s.bias → reloc ≡ reloc_of bias e symbol meaning
    → next ≡ record { relocs = relocs ++ reloc ∷ []; names = names } → step_import s w e symbol (Some name) ≡ Ok next
imported_name s relocs before w next e symbol name index meaning bias reloc names view put means same is on =
    let P : Walked → Type 0 = λ (v : Walked). step_import s v e symbol (Some name) ≡ Ok next in
    subst P view (imported_step s (record { relocs = relocs; names = before }) next e symbol name index meaning reloc names put.0 put.1 put.3 means (is ∙ ap (λ b. reloc_of b e symbol meaning) same) on)

pub steps-none : (s : Space) (r : Result Walked ElfFault) (f : ℕ → Entry) (i n : ℕ) → n ≡ 0 → steps s r (map f (range_with_len i n)) ≡ r
unfolding steps
steps-none s r f i n h = ap (λ k. steps s r (map f (range_with_len i k))) h

steps-suc : (s : Space) (w : Walked) (f : ℕ → Entry) (i n m : ℕ) → n ≡ suc m → steps s (Ok w) (map f (range_with_len i n)) ≡ steps s (step s w (f i)) (map f (range_with_len (i + 1) m))
unfolding steps
steps-suc s w f i n m h = ap (λ k. steps s (Ok w) (map f (range_with_len i k))) h

-- one entry more
pub steps-next : (s : Space) (w : Walked) (f : ℕ → Entry) (i n : ℕ) → i < n → steps s (Ok w) (map f (range_with_len i (n - i))) ≡ steps s (step s w (f i)) (map f (range_with_len (i + 1) (n - (i + 1))))
steps-next s w f i n h = steps-suc s w f i (n - i) (n - (i + 1)) (omega (arith, h))

pub steps-fault : (s : Space) (fault : ElfFault) (es : List Entry) → steps s (Err fault) es ≡ Err fault
unfolding steps
steps-fault s fault [] = refl
steps-fault s fault (e ∷ es) = steps-fault s fault es

pub steps-append : (s : Space) (r : Result Walked ElfFault) (xs ys : List Entry) → steps s r (xs ++ ys) ≡ steps s (steps s r xs) ys
unfolding steps
steps-append s r xs ys = fold-append (step_after s) r xs ys

-- answers that say how one result is made say how an equal one is
pub rewritten : {T X : Type 0} (r : Result T ElfFault) (x y : Result X ElfFault) (new : X) → x ≡ y → MatchResult r (λ _. y ≡ Ok new) (λ e. (e ≡ ElfFault.Memory) ⊎ (y ≡ Err e)) → MatchResult r (λ _. x ≡ Ok new) (λ e. (e ≡ ElfFault.Memory) ⊎ (x ≡ Err e))
rewritten {X} r x y new same h =
    let P : Result X ElfFault → Type 0 = λ (z : Result X ElfFault). MatchResult r (λ _. z ≡ Ok new) (λ e. (e ≡ ElfFault.Memory) ⊎ (z ≡ Err e)) in
    subst P (sym same) h

pub rewritten_value : {T X : Type 0} (r : Result T ElfFault) (x y : Result X ElfFault) (f : T → X) → x ≡ y → MatchResult r (λ v. y ≡ Ok (f v)) (λ e. (e ≡ ElfFault.Memory) ⊎ (y ≡ Err e)) → MatchResult r (λ v. x ≡ Ok (f v)) (λ e. (e ≡ ElfFault.Memory) ⊎ (x ≡ Err e))
rewritten_value {X} r x y f same h =
    let P : Result X ElfFault → Type 0 = λ (z : Result X ElfFault). MatchResult r (λ v. z ≡ Ok (f v)) (λ e. (e ≡ ElfFault.Memory) ⊎ (z ≡ Err e)) in
    subst P (sym same) h

pub rewritten_fault : {X : Type 0} (x y : Result X ElfFault) (fault : ElfFault) → x ≡ y → (fault ≡ ElfFault.Memory) ⊎ (y ≡ Err fault) → (fault ≡ ElfFault.Memory) ⊎ (x ≡ Err fault)
rewritten_fault x y fault same (inl h) = inl h
rewritten_fault x y fault same (inr h) = inr (same ∙ h)

-- an entry in the midst of a table has a fault, or leads on
pub step_fault : (s : Space) (start : Result Walked ElfFault) (w : Walked) (f : ℕ → Entry) (i n : ℕ) (e : Entry) (fault : ElfFault) → i < n → e ≡ f i → start ≡ steps s (Ok w) (map f (range_with_len i (n - i))) → (fault ≡ ElfFault.Memory) ⊎ (step s w e ≡ Err fault) → (fault ≡ ElfFault.Memory) ⊎ (start ≡ Err fault)
step_fault s start w f i n e fault lt at so (inl h) = inl h
step_fault s start w f i n e fault lt at so (inr h) =
    let rest = map f (range_with_len (i + 1) (n - (i + 1))) in
    inr (so ∙ steps-next s w f i n lt ∙ ap (λ r. steps s r rest) (ap (step s w) (sym at) ∙ h) ∙ steps-fault s fault rest)

pub step_done : (s : Space) (start : Result Walked ElfFault) (w next : Walked) (f : ℕ → Entry) (i n : ℕ) (e : Entry) → i < n → e ≡ f i → start ≡ steps s (Ok w) (map f (range_with_len i (n - i))) → step s w e ≡ Ok next → start ≡ steps s (Ok next) (map f (range_with_len (i + 1) (n - (i + 1))))
step_done s start w next f i n e lt at so h =
    let rest = map f (range_with_len (i + 1) (n - (i + 1))) in
    so ∙ steps-next s w f i n lt ∙ ap (λ r. steps s r rest) (ap (step s w) (sym at) ∙ h)

module _ (s : Space) (w : Walked) where
  abbrev pub rel_of : Space → List ℕ
  rel_of s = unwrap_or (table_at s.ranges s.bias s.tables.rel (rel_bytes s.tables)) []

  abbrev pub jmprel_of : Space → List ℕ
  jmprel_of s = unwrap_or (table_at s.ranges s.bias s.tables.jmprel (jmprel_bytes s.tables)) []

  all-steps : steps s (Ok w) (all_entries s) ≡ steps s (steps s (Ok w) (entries (rel_of s))) (entries (jmprel_of s))
  all-steps = steps-append s (Ok w) (entries (rel_of s)) (entries (jmprel_of s))

  pub first_fault : (table : List ℕ) (fault : ElfFault) → table ≡ rel_of s → (fault ≡ ElfFault.Memory) ⊎ (steps s (Ok w) (entries table) ≡ Err fault) → (fault ≡ ElfFault.Memory) ⊎ (steps s (Ok w) (all_entries s) ≡ Err fault)
  first_fault table fault at (inl h) = inl h
  first_fault table fault at (inr h) =
      inr (all-steps ∙ ap (λ r. steps s r (entries (jmprel_of s))) (ap (λ (t : List ℕ). steps s (Ok w) (entries t)) (sym at) ∙ h) ∙ steps-fault s fault (entries (jmprel_of s)))

  pub second_table : {T : Type 0} (next last : Walked) (table table' : List ℕ) (r : Result T ElfFault) → table ≡ rel_of s → table' ≡ jmprel_of s → steps s (Ok w) (entries table) ≡ Ok next
      → MatchResult r (λ _. steps s (Ok next) (entries table') ≡ Ok last) (λ e. (e ≡ ElfFault.Memory) ⊎ (steps s (Ok next) (entries table') ≡ Err e))
      → MatchResult r (λ _. steps s (Ok w) (all_entries s) ≡ Ok last) (λ e. (e ≡ ElfFault.Memory) ⊎ (steps s (Ok w) (all_entries s) ≡ Err e))
  second_table next last table table' r at at' first h =
      rewritten r (steps s (Ok w) (all_entries s)) (steps s (Ok next) (entries table')) last (all-steps ∙ ap (λ r. steps s r (entries (jmprel_of s))) (ap (λ (t : List ℕ). steps s (Ok w) (entries t)) (sym at) ∙ first) ∙ ap (λ (t : List ℕ). steps s (Ok next) (entries t)) (sym at')) h

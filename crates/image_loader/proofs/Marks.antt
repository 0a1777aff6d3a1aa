-- The names that are imported, marked relocation by relocation.
use Rattle.std.proofs.Common.{ℕ, zero, suc, ◌≡◌, ◌≢◌, ◌+◌, ◌<◌, Bool, true, false, List, [], ◌∷◌, ◌++◌, length, map, take, set, get_or, refl, sym, ap, ◌∙◌, arith, ⊎_elim, replicate, get_or-set_same, get_or-set_other, eq-eqb, ne_eqb}
use Rattle.std.specs.Prelude.{◌||◌, ◌&&◌, ◌==◌, not, is_none}
use Rattle.std.specs.List.{enumerate_from, list_any}
use Rattle.std.proofs.lemmas.Bool.{cases_order}
use Rattle.std.proofs.lemmas.List.{append_assoc, length-append, length-set}
use Rattle.std.proofs.lemmas.List.Folds.{list_any_more}
use Rattle.memory_map.specs.declared.import_name.ImportName.{ImportName}
use Rattle.elf32_reader.specs.Relocations.{is_name_below}
use Rattle.elf32_reader.specs.declared.reloc.ElfReloc.{ElfReloc}
use Rattle.elf32_reader.specs.declared.reloc.RelocSymbol.{RelocSymbol}
use Rattle.elf32_reader.specs.declared.reloc.RelocSymbol.TheVariants.{Value, Import, Weak, Unset}
use Rattle.stub_file.specs.Stubs.{StatedStubs, stub_named}
use Rattle.image_loader.specs.Binding.{imports, is_zero, names_from}
use Rattle.image_loader.specs.Strong.{AreStrong, marked}

or_false : (b : Bool) → (b || false) ≡ b
or_false true = refl
or_false false = refl

or_true : (b : Bool) → (b || true) ≡ true
or_true true = refl
or_true false = refl

length-marked : (strong : List Bool) (s : RelocSymbol) → length (marked strong s) ≡ length strong
length-marked strong (Value v) = refl
length-marked strong (Import i) = length-set strong i true
length-marked strong (Weak i) = refl
length-marked strong Unset = refl

marked-at : (strong : List Bool) (s : RelocSymbol) (k : ℕ) (d : Bool) → k < length strong → is_name_below (length strong) s ≡ true → get_or (marked strong s) k d ≡ (get_or strong k d || imports k s)
marked-at strong (Value v) k d in' below = sym (or_false (get_or strong k d))
marked-at strong (Weak i) k d in' below = sym (or_false (get_or strong k d))
marked-at strong Unset k d in' below = sym (or_false (get_or strong k d))
marked-at strong (Import i) k d in' below =
    ⊎_elim
    (λ (is : k ≡ i).
    ap (λ j. get_or (set strong i true) j d) is
    ∙ get_or-set_same strong i true d (omega (arith, in', is))
    ∙ sym (ap (λ b. get_or strong k d || b) (eq-eqb i k (sym is)) ∙ or_true (get_or strong k d)))
    (λ order.
    let off : k ≢ i = λ e. ⊎_elim (λ less. omega (arith, less, e)) (λ more. omega (arith, more, e)) order in
    get_or-set_other strong i k true d off
    ∙ sym (ap (λ b. get_or strong k d || b) (ne_eqb i k (λ e. off (sym e))) ∙ or_false (get_or strong k d)))
    (cases_order k i)

pub strong-more : (relocs : List ElfReloc) (count i : ℕ) (d : ElfReloc) (strong now : List Bool) → AreStrong (take i relocs) count strong → i < length relocs → is_name_below count (get_or relocs i d).symbol ≡ true
    → now ≡ marked strong (get_or relocs i d).symbol → AreStrong (take (i + 1) relocs) count now
strong-more relocs count i d strong now h lt below is =
    let size = h.size in
    record {
      size = ap length is ∙ length-marked strong (get_or relocs i d).symbol ∙ size;
      each = λ k e in'.
          ap (λ (l : List Bool). get_or l k e) is
          ∙ marked-at strong (get_or relocs i d).symbol k e (omega (arith, in', size)) (ap (λ n. is_name_below n (get_or relocs i d).symbol) size ∙ below)
          ∙ ap (λ b. b || imports k (get_or relocs i d).symbol) (h.each k e in')
          ∙ sym (list_any_more (λ r. imports k r.symbol) relocs i d lt);
    }

none_strong : (n k : ℕ) (d : Bool) → k < n → get_or (replicate n false) k d ≡ false
none_strong zero k d in' = absurd (omega (arith, in'))
none_strong (suc n) zero d in' = refl
none_strong (suc n) (suc k) d in' = none_strong n k d (omega (arith, in'))

pub strong-none : (count : ℕ) (strong : List Bool) → strong ≡ replicate count false → length strong ≡ count → AreStrong [] count strong
strong-none count strong is size = record { size = size; each = λ k d in'. ap (λ (l : List Bool). get_or l k d) is ∙ none_strong count k d in' }

-- one name more of those that are numbered
pub numbered-more : (stubs : StatedStubs) (relocs : List ElfReloc) (done : List ImportName) (x : ImportName) (name : List ℕ) (rest : List (List ℕ)) (whole : List ImportName) (strong : Bool)
    → strong ≡ list_any (λ r. imports (length done) r.symbol) relocs → x ≡ record { name = name; zero = is_none (stub_named name stubs) && not strong }
    → done ++ names_from stubs relocs (length done) (name ∷ rest) ≡ whole → done ++ x ∷ [] ++ names_from stubs relocs (length (done ++ x ∷ [])) rest ≡ whole
numbered-more stubs relocs done x name rest whole strong marks is h =
    let n = length done in
    let same : x ≡ record { name = name; zero = is_zero stubs relocs n name } = is ∙ ap (λ b. record { name = name; zero = is_none (stub_named name stubs) && not b }) marks in
    let size : length (done ++ x ∷ []) ≡ n + 1 = omega (arith, length-append done (x ∷ [])) in
    append_assoc done (x ∷ []) (names_from stubs relocs (length (done ++ x ∷ [])) rest)
    ∙ ap (λ k. done ++ (x ∷ names_from stubs relocs k rest)) size
    ∙ ap (λ y. done ++ (y ∷ names_from stubs relocs (n + 1) rest)) same
    ∙ h

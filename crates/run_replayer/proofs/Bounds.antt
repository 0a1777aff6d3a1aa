-- What fields state is within its bounds.
use Rattle.std.proofs.Common.{◌≡◌, ℕ, ◌+◌, ◌*◌, ◌^◌, ◌<◌, ◌≤◌, true, List, [], ◌∷◌, length, Option, Some, None, refl, subst, arith}
use Rattle.std.proofs.lemmas.Bool.Decides.{nat_tests}
use Rattle.std.proofs.lemmas.List.Elements.{All-cons, All-nil}
use Rattle.std.specs.Prelude.{All, option_and_then, option_map}
use Rattle.text_fields.specs.Fields.{byte_of, word_of, bool_of}
use Rattle.text_fields.specs.Hex.{hex_bytes, number_after}
use Rattle.text_fields.proofs.FieldTexts.{has_field, is_done}
use Rattle.memory_map.specs.declared.choice.Choice.{Choice}
use Rattle.memory_map.specs.declared.choice.Fill.{Fill}
use Rattle.x86_machine.specs.StartLaws.{IsFill}
use Rattle.run_replayer.specs.declared.record.RunStep.{RunStep}
use Rattle.run_replayer.specs.Fields.{bases_of, choice_of, fill_bytes_of, fill_of, fits_fill, regs_of, step_of}
use Rattle.run_replayer.specs.Laws.{IsChoice, IsStep}
use Rattle.automaton_text.proofs.HexBounds.{byte_below, number_below, word_below}
use Rattle.run_replayer.proofs.FieldForms.{fits_by}
use Rattle.run_replayer.proofs.LineTexts.{chosen_by}

-- ---- bases and registers

pub bases_small : (fs : List (List ℕ)) (bases : ℕ × ℕ) → bases_of fs ≡ Some bases → (bases.0 < 2 ^ 32) × (bases.1 < 2 ^ 32)
unfolding bases_of
bases_small fs bases e =
    let a = has_field word_of fs _ bases e in
    let b = has_field word_of a.others _ bases a.after in
    let d = is_done _ bases b.others b.after in
    let P : (ℕ × ℕ) → Type 0 = λ p. (p.0 < 2 ^ 32) × (p.1 < 2 ^ 32) in
    subst P d.same (word_below a.field a.value a.gives, word_below b.field b.value b.gives)

pub record AreWords (words : List ℕ) : Type 0 where
  pub small : All (λ n. n < 2 ^ 32) words

pub no_word : AreWords []
no_word = record { small = All-nil (λ n. n < 2 ^ 32) }

pub one_word : {words : List ℕ} (n : ℕ) → n < 2 ^ 32 → AreWords words → AreWords (n ∷ words)
one_word {words} n small others = record { small = All-cons (λ n. n < 2 ^ 32) n words small others.small }

pub record AreRegisters (regs : List ℕ) : Type 0 where
  pub eight : length regs ≡ 8
  pub words : All (λ n. n < 2 ^ 32) regs

pub regs_small : (fs : List (List ℕ)) (regs : List ℕ) → regs_of fs ≡ Some regs → AreRegisters regs
unfolding regs_of
regs_small fs regs e =
    let a = has_field word_of fs _ regs e in
    let b = has_field word_of a.others _ regs a.after in
    let c = has_field word_of b.others _ regs b.after in
    let d = has_field word_of c.others _ regs c.after in
    let s = has_field word_of d.others _ regs d.after in
    let t = has_field word_of s.others _ regs s.after in
    let u = has_field word_of t.others _ regs t.after in
    let v = has_field word_of u.others _ regs u.after in
    let w = is_done _ regs v.others v.after in
    let words : AreWords (a.value ∷ b.value ∷ c.value ∷ d.value ∷ s.value ∷ t.value ∷ u.value ∷ v.value ∷ []) =
    one_word a.value (word_below a.field a.value a.gives) (one_word b.value (word_below b.field b.value b.gives)
    (one_word c.value (word_below c.field c.value c.gives) (one_word d.value (word_below d.field d.value d.gives)
    (one_word s.value (word_below s.field s.value s.gives) (one_word t.value (word_below t.field t.value t.gives)
    (one_word u.value (word_below u.field u.value u.gives) (one_word v.value (word_below v.field v.value v.gives) no_word))))))) in
    subst AreRegisters w.same (record { eight = refl; words = words.small })

-- ---- fills

pair_small : (high low : ℕ) (others bytes : List ℕ) (first : Option ℕ) (more : Option (List ℕ)) → number_after 0 (high ∷ low ∷ []) ≡ first → hex_bytes others ≡ more
    → ((rest : List ℕ) → hex_bytes others ≡ Some rest → All (λ b. b < 256) rest)
    → option_and_then (λ b. option_map (λ bs. b ∷ bs) more) first ≡ Some bytes → All (λ b. b < 256) bytes
pair_small high low others bytes None more e f later h = cc
pair_small high low others bytes (Some b) None e f later h = cc
pair_small high low others bytes (Some b) (Some rest) e f later h =
    let is : b ∷ rest ≡ bytes = cc in
    let small : b < (0 + 1) * 16 ^ 2 = number_below 0 (high ∷ low ∷ []) b e in
    let P : List ℕ → Type 0 = λ bs. All (λ b. b < 256) bs in
    subst P is (All-cons (λ b. b < 256) b rest small (later rest f))

bytes_small : (text bytes : List ℕ) → hex_bytes text ≡ Some bytes → All (λ b. b < 256) bytes
bytes_small [] bytes h = (let is : [] ≡ bytes = cc in let P : List ℕ → Type 0 = λ bs. All (λ b. b < 256) bs in subst P is (All-nil (λ b. b < 256)))
bytes_small (high ∷ []) bytes h = cc
bytes_small (high ∷ low ∷ others) bytes h = pair_small high low others bytes (number_after 0 (high ∷ low ∷ [])) (hex_bytes others) refl refl (λ rest e. bytes_small others rest e) h

record Fitting (bytes : List ℕ) : Type 0 where
  some : 0 < length bytes
  most : length bytes ≤ 1024

fitting : (bytes : List ℕ) → fits_fill bytes ≡ true → Fitting bytes
fitting bytes e = record { some = grind (arith, nat_tests); most = grind (arith, nat_tests) }

pub fill_small : (fs : List (List ℕ)) (f : Fill) → fill_of fs ≡ Some f → IsFill f
unfolding fill_of
fill_small fs f e =
    let a = has_field word_of fs _ f e in
    let b = has_field fill_bytes_of a.others _ f a.after in
    let d = is_done _ f b.others b.after in
    let fits = fits_by (hex_bytes b.field) b.value b.gives in
    let size = fitting b.value fits.1 in
    subst IsFill d.same (record { at = word_below a.field a.value a.gives; some = size.some; most = size.most; bytes = bytes_small b.field b.value fits.0 })

-- ---- choices and steps

pub choice_small : (fs : List (List ℕ)) (c : Choice) → choice_of fs ≡ Some c → IsChoice c
unfolding choice_of
choice_small fs c e =
    let f = has_field byte_of fs _ c e in
    let a = has_field word_of f.others _ c f.after in
    let b = has_field word_of a.others _ c a.after in
    let d = has_field word_of b.others _ c b.after in
    let s = has_field word_of d.others _ c d.after in
    let t = has_field bool_of s.others _ c s.after in
    let w = is_done _ c t.others t.after in
    subst IsChoice w.same (record {
      flags = byte_below f.field f.value f.gives;
      eax = word_below a.field a.value a.gives;
      ecx = word_below b.field b.value b.gives;
      edx = word_below d.field d.value d.gives;
      base = word_below s.field s.value s.gives;
      fill = All-nil IsFill;
    })

pub step_small : (fs : List (List ℕ)) (s : RunStep) → step_of fs ≡ Some s → IsStep s
unfolding step_of
step_small fs s e =
    let a = has_field word_of fs _ s e in
    let b = has_field word_of a.others _ s a.after in
    let c = chosen_by (choice_of b.others) a.value b.value s b.after in
    subst IsStep c.2 (record { from = word_below a.field a.value a.gives; to = word_below b.field b.value b.gives; choice = choice_small b.others c.0 c.1 })

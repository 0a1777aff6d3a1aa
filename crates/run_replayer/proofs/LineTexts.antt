-- Lines that are read are the texts of what they state.
use Rattle.std.proofs.Common.{◌≡◌, ℕ, Bool, true, false, List, [], ◌∷◌, ◌++◌, Option, Some, None, refl, sym, ◌∙◌, ap, append_assoc, append-nil}
use Rattle.std.specs.Prelude.{codes, find, option_map, if◌then◌else◌}
use Rattle.std.specs.Str.{bytes_eq}
use Rattle.std.proofs.lemmas.Slice.Eq.{bytes_eq-Decides}
use Rattle.text_fields.specs.Hex.{hex2, hex8, hex_text}
use Rattle.text_fields.specs.Line.{newline, space}
use Rattle.memory_map.specs.declared.choice.Choice.{Choice}
use Rattle.memory_map.specs.declared.choice.Fill.{Fill}
use Rattle.run_replayer.specs.declared.record.EndWord.{EndWord}
use Rattle.run_replayer.specs.declared.record.RunStep.{RunStep}
use Rattle.text_fields.specs.Fields.{byte_of, word_of, bool_of, bool_text}
use Rattle.run_replayer.specs.Fields.{bases_of, choice_of, end_of, end_words, ending_of, fill_bytes_of, fill_of, flags_of, regs_of, six_flags_of, step_of}
use Rattle.run_replayer.specs.Texts.{bases_line, choice_fields, end_word, fill_line, flag_digits, flags_line, regs_line, word_field, word_fields}
use Rattle.text_fields.proofs.FieldTexts.{HasField, byte_is, has_field, is_done, word_is, bool_is}
use Rattle.run_replayer.proofs.FieldForms.{fill_bytes_is, flags_is}
use Rattle.text_fields.proofs.Splitting.{spaced}

-- a field before others, both known
pub behind_field : (fs others more : List (List ℕ)) (field known : List ℕ) → fs ≡ field ∷ others → field ≡ known → others ≡ more → fs ≡ known ∷ more
behind_field fs others more field known e f g = cc

two_joined : (word gap a b end : List ℕ) → (word ++ ((gap ++ a) ++ ((gap ++ b) ++ []))) ++ end ≡ (((word ++ (gap ++ a)) ++ gap) ++ b) ++ end
two_joined word gap a b end = simp (append_assoc, append-nil)

pub fill_explicit : (at : ℕ) (bytes : List ℕ) → (codes "fill" ++ spaced (hex8 at ∷ hex_text bytes ∷ [])) ++ newline ≡ fill_line (record { at = at; bytes = bytes })
unfolding fill_line
fill_explicit at bytes = two_joined (codes "fill") space (hex8 at) (hex_text bytes) newline

pub fill_told : (fs : List (List ℕ)) (f : Fill) → fill_of fs ≡ Some f → (codes "fill" ++ spaced fs) ++ newline ≡ fill_line f
unfolding fill_of
fill_told fs f e =
    let a = has_field word_of fs _ f e in
    let b = has_field fill_bytes_of a.others _ f a.after in
    let d = is_done _ f b.others b.after in
    let rest : a.others ≡ hex_text b.value ∷ [] = behind_field a.others b.others [] b.field (hex_text b.value) b.begins (fill_bytes_is b.field b.value b.gives) d.none in
    let all : fs ≡ hex8 a.value ∷ hex_text b.value ∷ [] = behind_field fs a.others (hex_text b.value ∷ []) a.field (hex8 a.value) a.begins (word_is a.field a.value a.gives) rest in
    ap (λ l. (codes "fill" ++ spaced l) ++ newline) all ∙ fill_explicit a.value b.value ∙ ap fill_line d.same

-- the fields of words, and others behind them
abbrev pub words_of : List ℕ → List (List ℕ) → List (List ℕ)
words_of [] more = more
words_of (w ∷ words) more = hex8 w ∷ words_of words more

pub words_spaced : (words : List ℕ) (more : List (List ℕ)) → spaced (words_of words more) ≡ word_fields words ++ spaced more
words_spaced [] more = refl
words_spaced (w ∷ words) more = ap (λ l. (space ++ hex8 w) ++ l) (words_spaced words more) ∙ sym (append_assoc (space ++ hex8 w) (word_fields words) (spaced more))

pub regs_explicit : (regs : List ℕ) → (codes "regs" ++ spaced (words_of regs [])) ++ newline ≡ regs_line regs
regs_explicit regs = ap (λ l. (codes "regs" ++ l) ++ newline) (words_spaced regs [] ∙ append-nil (word_fields regs))

-- a word before others
word_then : {B : Type 0} (fs : List (List ℕ)) (go : ℕ → List (List ℕ) → Option B) (b : B) (h : HasField word_of fs go b) (more : List (List ℕ)) → h.others ≡ more → fs ≡ hex8 h.value ∷ more
word_then fs go b h more rest = behind_field fs h.others more h.field (hex8 h.value) h.begins (word_is h.field h.value h.gives) rest

pub regs_told : (fs : List (List ℕ)) (regs : List ℕ) → regs_of fs ≡ Some regs → (codes "regs" ++ spaced fs) ++ newline ≡ regs_line regs
unfolding regs_of
regs_told fs regs e =
    let a = has_field word_of fs _ regs e in
    let b = has_field word_of a.others _ regs a.after in
    let c = has_field word_of b.others _ regs b.after in
    let d = has_field word_of c.others _ regs c.after in
    let s = has_field word_of d.others _ regs d.after in
    let t = has_field word_of s.others _ regs s.after in
    let u = has_field word_of t.others _ regs t.after in
    let v = has_field word_of u.others _ regs u.after in
    let w = is_done _ regs v.others v.after in
    let words = a.value ∷ b.value ∷ c.value ∷ d.value ∷ s.value ∷ t.value ∷ u.value ∷ v.value ∷ [] in
    let all : fs ≡ words_of words [] =
    word_then fs _ regs a _ (word_then a.others _ regs b _ (word_then b.others _ regs c _ (word_then c.others _ regs d _
    (word_then d.others _ regs s _ (word_then s.others _ regs t _ (word_then t.others _ regs u _ (word_then u.others _ regs v [] w.none))))))) in
    ap (λ l. (codes "regs" ++ spaced l) ++ newline) all ∙ regs_explicit words ∙ ap regs_line w.same

pub flags_explicit : (n : ℕ) → (codes "flags" ++ spaced (flag_digits n ∷ [])) ++ newline ≡ flags_line n
flags_explicit n = simp (append_assoc, append-nil)

pub flags_told : (fs : List (List ℕ)) (flags : ℕ) → six_flags_of fs ≡ Some flags → (codes "flags" ++ spaced fs) ++ newline ≡ flags_line flags
unfolding six_flags_of
flags_told fs flags e =
    let a = has_field flags_of fs _ flags e in
    let d = is_done _ flags a.others a.after in
    let all : fs ≡ flag_digits a.value ∷ [] = behind_field fs a.others [] a.field (flag_digits a.value) a.begins (flags_is a.field a.value a.gives) d.none in
    ap (λ l. (codes "flags" ++ spaced l) ++ newline) all ∙ flags_explicit a.value ∙ ap flags_line d.same

pair_joined : (word a b end : List ℕ) → (word ++ (a ++ (b ++ []))) ++ end ≡ ((word ++ a) ++ b) ++ end
pair_joined word a b end = simp (append_assoc, append-nil)

pub bases_explicit : (f g : ℕ) → (codes "bases" ++ spaced (words_of (f ∷ g ∷ []) [])) ++ newline ≡ bases_line f g
bases_explicit f g = pair_joined (codes "bases") (word_field f) (word_field g) newline

pub bases_told : (fs : List (List ℕ)) (bases : ℕ × ℕ) → bases_of fs ≡ Some bases → (codes "bases" ++ spaced fs) ++ newline ≡ bases_line bases.0 bases.1
unfolding bases_of
bases_told fs bases e =
    let a = has_field word_of fs _ bases e in
    let b = has_field word_of a.others _ bases a.after in
    let d = is_done _ bases b.others b.after in
    let all : fs ≡ words_of (a.value ∷ b.value ∷ []) [] = word_then fs _ bases a _ (word_then a.others _ bases b [] d.none) in
    ap (λ l. (codes "bases" ++ spaced l) ++ newline) all ∙ bases_explicit a.value b.value ∙ ap (λ (p : ℕ × ℕ). bases_line p.0 p.1) d.same

-- what the fields of a choice state
pub record IsChosen (fs : List (List ℕ)) (c : Choice) : Type 0 where
  pub text : spaced fs ≡ choice_fields c
  pub no_fill : c.fill ≡ []

six_joined : (f a b c d gap t : List ℕ) → f ++ (a ++ (b ++ (c ++ (d ++ ((gap ++ t) ++ []))))) ≡ ((f ++ (a ++ (b ++ (c ++ (d ++ []))))) ++ gap) ++ t
six_joined f a b c d gap t = simp (append_assoc, append-nil)

pub choice_explicit : (flags eax ecx edx base : ℕ) (fails : Bool)
    → spaced (hex2 flags ∷ words_of (eax ∷ ecx ∷ edx ∷ base ∷ []) (bool_text fails ∷ []))
    ≡ choice_fields (record { flags = flags; eax = eax; ecx = ecx; edx = edx; base = base; fails = fails; fill = [] })
unfolding choice_fields
choice_explicit flags eax ecx edx base fails =
    six_joined (space ++ hex2 flags) (word_field eax) (word_field ecx) (word_field edx) (word_field base) space (bool_text fails)

pub choice_told : (fs : List (List ℕ)) (c : Choice) → choice_of fs ≡ Some c → IsChosen fs c
unfolding choice_of
choice_told fs c e =
    let f = has_field byte_of fs _ c e in
    let a = has_field word_of f.others _ c f.after in
    let b = has_field word_of a.others _ c a.after in
    let d = has_field word_of b.others _ c b.after in
    let s = has_field word_of d.others _ c d.after in
    let t = has_field bool_of s.others _ c s.after in
    let w = is_done _ c t.others t.after in
    let last : s.others ≡ bool_text t.value ∷ [] = behind_field s.others t.others [] t.field (bool_text t.value) t.begins (bool_is t.field t.value t.gives) w.none in
    let words : f.others ≡ words_of (a.value ∷ b.value ∷ d.value ∷ s.value ∷ []) (bool_text t.value ∷ []) =
    word_then f.others _ c a _ (word_then a.others _ c b _ (word_then b.others _ c d _ (word_then d.others _ c s _ last))) in
    let all : fs ≡ hex2 f.value ∷ words_of (a.value ∷ b.value ∷ d.value ∷ s.value ∷ []) (bool_text t.value ∷ []) =
    behind_field fs f.others _ f.field (hex2 f.value) f.begins (byte_is f.field f.value f.gives) words in
    record {
      text = ap spaced all ∙ choice_explicit f.value a.value b.value d.value s.value t.value ∙ ap choice_fields w.same;
      no_fill = ap (λ (k : Choice). k.fill) (sym w.same);
    }

-- what the fields of a step state
pub record IsStepped (fs : List (List ℕ)) (s : RunStep) : Type 0 where
  pub text : spaced fs ≡ word_field s.from ++ word_field s.to ++ choice_fields s.choice
  pub no_fill : s.choice.fill ≡ []

pub chosen_by : (o : Option Choice) (from to : ℕ) (s : RunStep) → option_map (λ (c : Choice). record { from = from; to = to; choice = c }) o ≡ Some s
    → (c : Choice) × (o ≡ Some c) × (record { from = from; to = to; choice = c } ≡ s)
chosen_by None from to s e = cc
chosen_by (Some c) from to s e = (c, refl, cc)

pub step_told : (fs : List (List ℕ)) (s : RunStep) → step_of fs ≡ Some s → IsStepped fs s
unfolding step_of
step_told fs s e =
    let a = has_field word_of fs _ s e in
    let b = has_field word_of a.others _ s a.after in
    let c = chosen_by (choice_of b.others) a.value b.value s b.after in
    let told = choice_told b.others c.0 c.1 in
    let all : fs ≡ words_of (a.value ∷ b.value ∷ []) b.others = word_then fs _ s a _ (word_then a.others _ s b b.others refl) in
    record {
      text =
          ap spaced all ∙ words_spaced (a.value ∷ b.value ∷ []) b.others ∙ ap (λ l. word_fields (a.value ∷ b.value ∷ []) ++ l) told.text
          ∙ explicit a.value b.value (choice_fields c.0) ∙ ap (λ (k : RunStep). word_field k.from ++ word_field k.to ++ choice_fields k.choice) c.2;
      no_fill = ap (λ (k : RunStep). k.choice.fill) (sym c.2) ∙ told.no_fill;
    }
  where
    explicit : (f t : ℕ) (l : List ℕ) → word_fields (f ∷ t ∷ []) ++ l ≡ word_field f ++ word_field t ++ l
    explicit f t l = joined (word_field f) (word_field t) l
      where
        joined : (a b c : List ℕ) → (a ++ (b ++ [])) ++ c ≡ (a ++ b) ++ c
        joined a b c = simp (append_assoc, append-nil)

found_by : (field : List ℕ) (w : EndWord) (later : Option EndWord) (end : EndWord) (t : Bool) → bytes_eq (end_word w) field ≡ t → (later ≡ Some end → field ≡ end_word end)
    → (if t then Some w else later) ≡ Some end → field ≡ end_word end
found_by field w later end true e go h = sym ((bytes_eq-Decides (end_word w) field).0 e) ∙ (let same : w ≡ end = cc in ap end_word same)
found_by field w later end false e go h = go h

found_end : (field : List ℕ) (ws : List EndWord) (end : EndWord) → find (λ w. bytes_eq (end_word w) field) ws ≡ Some end → field ≡ end_word end
found_end field [] end h = cc
found_end field (w ∷ ws) end h = found_by field w (find (λ v. bytes_eq (end_word v) field) ws) end (bytes_eq (end_word w) field) refl (λ k. found_end field ws end k) h

pub ending_told : (fs : List (List ℕ)) (end : EndWord) → ending_of fs ≡ Some end → spaced fs ≡ space ++ end_word end
unfolding ending_of
ending_told fs end e =
    let a = has_field end_of fs _ end e in
    let d = is_done _ end a.others a.after in
    let all : fs ≡ end_word a.value ∷ [] = behind_field fs a.others [] a.field (end_word a.value) a.begins (found_end a.field end_words a.value a.gives) d.none in
    ap spaced all ∙ append-nil (space ++ end_word a.value) ∙ ap (λ w. space ++ end_word w) d.same

-- What a start file and a record state so far: the lines of the head, its fills, items with their own, and the end. A line adds itself.
use Rattle.std.proofs.Common.{◌≡◌, ℕ, Bool, true, false, List, [], ◌∷◌, ◌++◌, Ok, Err, refl, sym, ◌∙◌, ap, append_assoc, append-nil}
use Rattle.std.specs.Prelude.{Result, flat_map}
use Rattle.text_fields.specs.Line.{newline}
use Rattle.memory_map.specs.declared.choice.Fill.{Fill}
use Rattle.automaton_text.proofs.Told.{flat_map-last}
use Rattle.run_replayer.specs.declared.head.Head.{Head}
use Rattle.run_replayer.specs.Grammar.{is_rest, with_head_fill, with_last, within}
use Rattle.run_replayer.specs.Texts.{fill_line}
use Rattle.run_replayer.proofs.HeadTold.{told_due, told_due-fill}

pub within_made : {A B : Type 0} (whole : A → B) (r : Result A ℕ) (b : B) → within whole r ≡ Ok b → (a : A) × (r ≡ Ok a) × (whole a ≡ b)
within_made whole (Ok a) b h = (a, refl, cc)
within_made whole (Err kind) b h = cc

-- ---- nothing is stated before its turn

pub record IsInTurn {X : Type 0} (h : Head) (items : List X) (ended : Bool) : Type 0 where
  pub fresh : is_rest h.due ≡ false → (h.fill ≡ []) × (items ≡ [])
  pub late : ended ≡ true → is_rest h.due ≡ true

pub rest_in_turn : {X : Type 0} (h : Head) (items : List X) (ended : Bool) → is_rest h.due ≡ true → IsInTurn h items ended
rest_in_turn h items ended rest = record { fresh = λ e. (let no : true ≡ false = sym rest ∙ e in let never : ⊥ = cc in absurd never); late = λ _. rest }

pub head_in_turn : {X : Type 0} (h : Head) (items : List X) (ended : Bool) → h.fill ≡ [] → items ≡ [] → ended ≡ false → IsInTurn h items ended
head_in_turn h items ended fresh none on = record { fresh = λ _. (fresh, none); late = λ e. (let no : true ≡ false = sym e ∙ on in let never : ⊥ = cc in absurd never) }

-- ---- what a line adds

-- four parts, each as another
four : (a b c d x y z w : List ℕ) → a ≡ x → b ≡ y → c ≡ z → d ≡ w → a ++ b ++ c ++ d ≡ x ++ y ++ z ++ w
four a b c d x y z w e f g h = cc

-- where nothing stands behind a part, that part or a later one gains what is put behind all
first_gains : (a more : List ℕ) → (a ++ more) ++ [] ++ [] ++ [] ≡ (a ++ [] ++ [] ++ []) ++ more
first_gains a more = simp (append_assoc, append-nil)

second_gains : (a b more : List ℕ) → a ++ (b ++ more) ++ [] ++ [] ≡ (a ++ b ++ [] ++ []) ++ more
second_gains a b more = simp (append_assoc, append-nil)

third_gains : (a b c more : List ℕ) → a ++ b ++ (c ++ more) ++ [] ≡ (a ++ b ++ c ++ []) ++ more
third_gains a b c more = simp (append_assoc, append-nil)

fourth_gains : (a b c more : List ℕ) → a ++ b ++ c ++ more ≡ (a ++ b ++ c ++ []) ++ more
fourth_gains a b c more = simp (append_assoc, append-nil)

-- the last one changed so that its text gains this
pub flat_map-with_last : {X : Type 0} (f : X → List ℕ) (change : X → X) (more : List ℕ) → ((x : X) → f (change x) ≡ f x ++ more) → (x : X) (xs : List X)
    → flat_map f (with_last change (x ∷ xs)) ≡ flat_map f (x ∷ xs) ++ more
flat_map-with_last f change more gains x [] = append-nil (f (change x)) ∙ gains x ∙ ap (λ l. l ++ more) (sym (append-nil (f x)))
flat_map-with_last f change more gains x (y ∷ xs) = ap (λ l. f x ++ l) (flat_map-with_last f change more gains y xs) ∙ sym (append_assoc (f x) (flat_map f (y ∷ xs)) more)

abbrev pub stated : {X : Type 0} → List ℕ → (X → List ℕ) → Head → List X → List ℕ → List ℕ
stated header item_lines h items end = told_due header h.due h ++ flat_map fill_line h.fill ++ flat_map item_lines items ++ end

module _ {X : Type 0} (header : List ℕ) (item_lines : X → List ℕ) (h : Head) (line : List ℕ) where
  pub head_gains : (k : Head) (items : List X) (end : List ℕ) → h.fill ≡ [] → k.fill ≡ [] → items ≡ [] → end ≡ []
      → told_due header k.due k ≡ told_due header h.due h ++ (line ++ newline) → stated header item_lines k items end ≡ stated header item_lines h items end ++ (line ++ newline)
  head_gains k items end no_fill fresh none on text =
      let head : List ℕ = told_due header h.due h in
      four _ _ _ _ (head ++ (line ++ newline)) [] [] [] text (ap (flat_map fill_line) fresh) (ap (flat_map item_lines) none) on
      ∙ first_gains head (line ++ newline)
      ∙ ap (λ l. l ++ (line ++ newline)) (sym (four head (flat_map fill_line h.fill) (flat_map item_lines items) end head [] [] [] refl (ap (flat_map fill_line) no_fill) (ap (flat_map item_lines) none) on))

  pub fills_gain : (f : Fill) (items : List X) (end : List ℕ) → items ≡ [] → end ≡ [] → line ++ newline ≡ fill_line f
      → stated header item_lines (with_head_fill f h) items end ≡ stated header item_lines h items end ++ (line ++ newline)
  fills_gain f items end none on text =
      let head : List ℕ = told_due header h.due h in
      let fills : List ℕ = flat_map fill_line h.fill in
      four _ _ _ _ head (fills ++ (line ++ newline)) [] []
      (told_due-fill header h.due h (h.fill ++ f ∷ [])) (flat_map-last fill_line h.fill f ∙ ap (λ l. fills ++ l) (sym text)) (ap (flat_map item_lines) none) on
      ∙ second_gains head fills (line ++ newline)
      ∙ ap (λ l. l ++ (line ++ newline)) (sym (four head fills (flat_map item_lines items) end head fills [] [] refl refl (ap (flat_map item_lines) none) on))

  pub items_gain : (items more : List X) (end : List ℕ) → end ≡ [] → flat_map item_lines more ≡ flat_map item_lines items ++ (line ++ newline)
      → stated header item_lines h more end ≡ stated header item_lines h items end ++ (line ++ newline)
  items_gain items more end on text =
      let head : List ℕ = told_due header h.due h in
      let fills : List ℕ = flat_map fill_line h.fill in
      let held : List ℕ = flat_map item_lines items in
      four head fills _ _ head fills (held ++ (line ++ newline)) [] refl refl text on
      ∙ third_gains head fills held (line ++ newline)
      ∙ ap (λ l. l ++ (line ++ newline)) (sym (four head fills held end head fills held [] refl refl refl on))

  pub end_gains : (items : List X) (end last : List ℕ) → end ≡ [] → line ++ newline ≡ last
      → stated header item_lines h items last ≡ stated header item_lines h items end ++ (line ++ newline)
  end_gains items end last on text =
      let head : List ℕ = told_due header h.due h in
      let fills : List ℕ = flat_map fill_line h.fill in
      let held : List ℕ = flat_map item_lines items in
      ap (λ l. head ++ fills ++ held ++ l) (sym text) ∙ fourth_gains head fills held (line ++ newline)
      ∙ ap (λ l. l ++ (line ++ newline)) (sym (four head fills held end head fills held [] refl refl refl on))

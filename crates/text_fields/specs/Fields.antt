-- Fields that are read one after another, each by its form.
use Rattle.std.specs.Prelude.{ℕ, ◌≡◌, ◌==◌, Bool, true, false, List, [], ◌∷◌, length, codes, Option, None, Some, option_and_then, if◌then◌else◌}
use Rattle.std.specs.Str.{bytes_eq}
use Rattle.text_fields.specs.Hex.{hex_number}
use Rattle.text_fields.specs.Lines.{fields}

-- the fields of what is left of a line
abbrev pub fields_left : Bool → List ℕ → List (List ℕ)
fields_left true rest = []
fields_left false rest = fields rest

-- two digits, and eight
abbrev pub byte_of : List ℕ → Option ℕ
byte_of field = hex_number 2 field

abbrev pub word_of : List ℕ → Option ℕ
word_of field = hex_number 8 field

-- a truth in one digit
abbrev pub bool_text : Bool → List ℕ
bool_text b = if b then codes "1" else codes "0"

abbrev pub bool_of : List ℕ → Option Bool
bool_of field = if bytes_eq field (codes "1") then Some true else if bytes_eq field (codes "0") then Some false else None

-- the first field has this form and value, and these are the others
pub record Reads {A : Type 0} (form : List ℕ → Option A) (old : List (List ℕ)) (a : A) (new : List (List ℕ)) : Type 0 where
  pub field : List ℕ
  pub begins : old ≡ field ∷ new
  pub gives : form field ≡ Some a

-- there is no first field of this form
abbrev pub Lacks : {A : Type 0} → (List ℕ → Option A) → List (List ℕ) → Type 0
Lacks form [] = Unit {0}
Lacks form (field ∷ others) = form field ≡ None

-- a field of this form, and then what its value makes of the fields behind it
unfoldable pub then_field : {A B : Type 0} → (List ℕ → Option A) → List (List ℕ) → (A → List (List ℕ) → Option B) → Option B
then_field form [] go = None
then_field form (field ∷ others) go = option_and_then (λ a. go a others) (form field)

-- and no more
abbrev pub no_more : {A : Type 0} → A → List (List ℕ) → Option A
no_more a fs = if length fs == 0 then Some a else None

-- a word and no more
unfoldable pub only_word : List (List ℕ) → Option ℕ
only_word fs = then_field word_of fs (λ n fs. no_more n fs)

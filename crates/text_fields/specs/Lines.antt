-- Texts of lines, each ended by one byte 0A: the first line that is refused, and what the lines before it make.
use Rattle.std.specs.Prelude.{◌≡◌, ℕ, ◌+◌, ◌-◌, ◌==◌, ◌&&◌, Bool, true, List, [], ◌∷◌, length, take, drop, position, slice_get, Option, None, Some, option_map, Result, Ok, Err, if◌then◌else◌}
use Rattle.std.specs.Option.{option_map_or}
use Rattle.std.specs.List.{slice_split}
use Rattle.text_fields.specs.declared.line_fault.LineFault.{LineFault}
use Rattle.text_fields.specs.declared.line_fault.LineRefusal.{LineRefusal}
use Rattle.text_fields.specs.declared.line_fault.LineRefusal.TheVariants as refusals
use Rattle.text_fields.specs.declared.line_fault.TextFault.{TextFault}
use Rattle.text_fields.specs.declared.line_fault.TextFault.TheVariants as faults

-- the whole lines of a text in their order, and then what stands behind its last 0A
unfoldable pub lines : List ℕ → List (List ℕ)
lines text = slice_split (λ b. b == 10) text

-- the fields of a line, which single spaces separate
unfoldable pub fields : List ℕ → List (List ℕ)
fields line = slice_split (λ b. b == 32) line

-- what stands before the first of these bytes and what behind it, where there is one
abbrev pub cut_at : ℕ → List ℕ → Option (List ℕ × List ℕ)
cut_at separator text = option_map (λ at. (take at text, drop (at + 1) text)) (position (λ b. b == separator) text)

-- a kind of text: what a whole line makes of what was read before it, or the kind of its fault; and whether the text is ended
pub record Grammar (S : Type 0) : Type 0 where
  pub step : S → List ℕ → Result S ℕ
  pub is_ended : S → Bool

-- The kinds of faults: of the first line; of a first word that is unknown or out of its order; of the number or the form of
-- fields; of a line that does not stand above the one before it; of a count; of what a line says; and of a text that stops
-- before its end or goes on after it.

abbrev pub HEADER : ℕ
HEADER = 1

abbrev pub WORD : ℕ
WORD = 2

abbrev pub FIELD : ℕ
FIELD = 3

abbrev pub ORDER : ℕ
ORDER = 4

abbrev pub COUNT : ℕ
COUNT = 5

abbrev pub CONTENT : ℕ
CONTENT = 6

abbrev pub END : ℕ
END = 7

-- what holds, or a fault of this kind
abbrev pub demand : {A : Type 0} → Bool → ℕ → Result A ℕ → Result A ℕ
demand holds kind go = if holds then go else Err kind

-- what comes of what was found, or a fault of this kind where nothing was
abbrev pub or_fault : {A B : Type 0} → ℕ → Option A → (A → Result B ℕ) → Result B ℕ
or_fault kind None go = Err kind
or_fault kind (Some found) go = go found

-- the last element of a list, where it has one
abbrev pub last_of : {X : Type 0} → List X → Option X
last_of xs = slice_get xs (length xs - 1)

-- whether an element passes a test with the last one of a list, where that has one
abbrev pub follows_last : {X Y : Type 0} → (X → Y → Bool) → List X → Y → Bool
follows_last test xs y = option_map_or (λ last. test last y) (last_of xs) true

abbrev pub end_fault : ℕ → LineFault
end_fault line = record { line = line; kind = END }

module _ {S : Type 0} (g : Grammar S) where
  -- what a line makes, which has this number, and then what `go` makes of it
  abbrev pub after_line : ℕ → Result S ℕ → (S → Result S LineFault) → Result S LineFault
  after_line number (Ok state) go = go state
  after_line number (Err kind) go = Err (record { line = number; kind = kind })

  -- what lines make of what was read before them, or the first one that is refused. The first of them has this number, and
  -- nothing may stand behind the last 0A.
  unfoldable pub read_from : ℕ → S → List (List ℕ) → Result S LineFault
  read_from number state [] = Err (end_fault number)
  read_from number state (rest ∷ []) = if g.is_ended state && (length rest == 0) then Ok state else Err (end_fault number)
  read_from number state (line ∷ next ∷ others) =
      if g.is_ended state then Err (end_fault number)
      else after_line number (g.step state line) (λ read. read_from (number + 1) read (next ∷ others))

  -- what a text makes of the state in which nothing of it was read, or its first bad line
  abbrev pub read_text : S → List ℕ → Result S LineFault
  read_text start text = read_from 1 start (lines text)

-- a line is refused for its fault; want of memory may come at any line
abbrev pub IsRefusalOf : {S : Type 0} → Result S ℕ → LineRefusal → Type 0
IsRefusalOf read (refusals.Kind kind) = read ≡ Err kind
IsRefusalOf read refusals.Memory = Unit {0}

-- the same of a text
abbrev pub IsFaultOf : {S : Type 0} → Result S LineFault → TextFault → Type 0
IsFaultOf read (faults.Line fault) = read ≡ Err fault
IsFaultOf read faults.Memory = Unit {0}

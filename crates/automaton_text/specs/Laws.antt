-- Laws of automata and their texts.
use Rattle.std.specs.Prelude.{◌≡◌, ℕ, ◌==◌, ◌&&◌, ◌<◌, ◌^◌, Bool, true, is_none, List, length, codes, nat_le, nat_lt, Option, None, Some, Ok, Err, if◌then◌else◌}
use Rattle.std.specs.List.{list_all, list_any}
use Rattle.memory_map.specs.Image.{EXIT_PLACE}
use Rattle.memory_map.specs.Name.{is_name}
use Rattle.text_fields.specs.Lines.{CONTENT}
use Rattle.text_fields.specs.declared.line_fault.LineFault.{LineFault}
use Rattle.flow_log.specs.declared.edge.Edge.{Edge}
use Rattle.flow_log.specs.declared.edge.Label.{Label}
use Rattle.flow_log.specs.declared.edge.Label.TheVariants.{Code, Import}
use Rattle.automaton_text.specs.declared.automaton.Location.{Location}
use Rattle.automaton_text.specs.declared.automaton.OpenMark.{OpenMark}
use Rattle.automaton_text.specs.declared.automaton.Automaton.{Automaton}
use Rattle.automaton_text.specs.Orderly.{IsOrderly, IsOrderlyBy}
use Rattle.automaton_text.specs.Reading.{automaton_read, is_named}
use Rattle.automaton_text.specs.Text.{text_of}

-- what a text tells is an orderly automaton, whose text it is
abbrev pub TextsTellOrderlyAutomata : Type 0
TextsTellOrderlyAutomata = (text : List ℕ) (a : Automaton) → length text < 2 ^ 64 → automaton_read text ≡ Ok a → IsOrderly a × (text_of a ≡ text)

-- ---- what the types of an automaton's parts hold of them

abbrev pub is_word : ℕ → Bool
is_word n = nat_lt n (2 ^ 32)

abbrev pub fits_name : Option (List ℕ) → Bool
fits_name None = true
fits_name (Some name) = is_name name

abbrev pub fits_location : Location → Bool
fits_location l = is_word l.at && fits_name l.name

abbrev pub fits_label : Label → Bool
fits_label (Code bytes) = nat_le (length bytes.items) 15 && list_all (λ b. nat_lt b (2 ^ 8)) bytes.items
fits_label (Import name) = is_name name

abbrev pub fits_edge : Edge → Bool
fits_edge e = is_word e.from && is_word e.to && fits_label e.label

abbrev pub fits_row : Option ℕ → Bool
fits_row None = true
fits_row (Some row) = is_word row

abbrev pub fits_mark : OpenMark → Bool
fits_mark m = is_word m.at && fits_row m.row

pub record FitsTypes (a : Automaton) : Type 0 where
  pub entry : is_word a.entry ≡ true
  pub locations : list_all fits_location a.locations ≡ true
  pub few_locations : length a.locations < 2 ^ 64
  pub edges : list_all fits_edge a.edges ≡ true
  pub few_edges : length a.edges < 2 ^ 64
  pub marks : list_all fits_mark a.marks ≡ true
  pub few_marks : length a.marks < 2 ^ 64

-- ---- reading what was printed

-- the text of an orderly automaton tells that automaton
abbrev pub OrderlyAutomataAreReadBack : Type 0
OrderlyAutomataAreReadBack = (a : Automaton) → FitsTypes a → IsOrderly a → automaton_read (text_of a) ≡ Ok a

-- the exit place has no name; imports may have any
abbrev pub has_any_name : Location → Bool
has_any_name l = if l.at == EXIT_PLACE then is_none l.name else true

abbrev pub has_dash : Location → Bool
has_dash l = is_named (codes "-") l.name

-- the text of an automaton that is orderly but for imports that are named `-` is refused for what a line says
abbrev pub DashesAreRefused : Type 0
DashesAreRefused = (a : Automaton) → FitsTypes a → IsOrderlyBy has_any_name a → list_any has_dash a.locations ≡ true → (f : LineFault) × (automaton_read (text_of a) ≡ Err f) × (f.kind ≡ CONTENT)

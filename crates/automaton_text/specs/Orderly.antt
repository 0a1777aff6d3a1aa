-- Orderly automata: those that their texts tell.
use Rattle.std.specs.Prelude.{◌≡◌, ℕ, ◌==◌, ◌&&◌, ◌++◌, Bool, true, not, is_none, is_some, List, codes, nat_lt, if◌then◌else◌}
use Rattle.std.specs.List.{list_all}
use Rattle.std.specs.Ordering.{is_lt}
use Rattle.memory_map.specs.Ascending.{ascend}
use Rattle.memory_map.specs.Image.{EXIT_PLACE}
use Rattle.text_fields.specs.Hex.{hex8}
use Rattle.text_fields.specs.Line.{space}
use Rattle.x86_syntax.specs.Spelling.{spelled}
use Rattle.flow_log.specs.declared.edge.Edge.{Edge}
use Rattle.flow_log.specs.declared.edge.Label.{Label}
use Rattle.flow_log.specs.declared.edge.Label.TheVariants.{Code, Import}
use Rattle.automaton_text.specs.declared.automaton.Location.{Location}
use Rattle.automaton_text.specs.declared.automaton.OpenMark.{OpenMark}
use Rattle.automaton_text.specs.declared.automaton.Automaton.{Automaton}
use Rattle.automaton_text.specs.Orders.{opening_cmp}
use Rattle.automaton_text.specs.Reading.{is_line_above, is_location, is_named, is_place_of}
use Rattle.automaton_text.specs.Text.{HaveRowsBy, is_version, label_text}

-- ---- orders

abbrev pub is_location_above : Location → Location → Bool
is_location_above l m = nat_lt l.at m.at

-- the addresses and the label of an edge as they stand in its line
unfoldable pub edge_text : Edge → List ℕ
edge_text e = hex8 e.from ++ space ++ hex8 e.to ++ space ++ label_text e.from e.label

-- by the address before, the address after, and then by the rest of the line
abbrev pub is_edge_above : Edge → Edge → Bool
is_edge_above e f = is_line_above (edge_text e) (edge_text f)

abbrev pub is_opening_above : OpenMark → OpenMark → Bool
is_opening_above m n = is_lt (opening_cmp m n)

-- ---- what the parts have to be

-- the exit place has no name, and no import has the name `-`, which stands for the exit place
abbrev pub has_own_name : Location → Bool
has_own_name l = if l.at == EXIT_PLACE then is_none l.name else not (is_named (codes "-") l.name)

-- the bytes of an instruction, or the import whose place the edge leaves
abbrev pub is_label_at : List Location → ℕ → Label → Bool
is_label_at locations from (Code bytes) = is_location locations from && is_some (spelled bytes.items)
is_label_at locations from (Import name) = is_place_of locations from name

abbrev pub is_edge_among : List Location → Edge → Bool
is_edge_among locations e = is_label_at locations e.from e.label && is_location locations e.to

-- ---- whole automata, whose locations are named by a rule

pub record IsOrderlyBy (has_name : Location → Bool) (a : Automaton) : Type 0 where
  pub version : is_version a.version ≡ true
  pub entry : is_location a.locations a.entry ≡ true
  pub locations : ascend is_location_above a.locations ≡ true
  pub names : list_all has_name a.locations ≡ true
  pub edges : ascend is_edge_above a.edges ≡ true
  pub labels : list_all (is_edge_among a.locations) a.edges ≡ true
  pub marks : ascend is_opening_above a.marks ≡ true
  pub rows : HaveRowsBy a.version a.marks
  pub opened : list_all (λ m. is_location a.locations m.at) a.marks ≡ true

abbrev pub IsOrderly : Automaton → Type 0
IsOrderly a = IsOrderlyBy has_own_name a

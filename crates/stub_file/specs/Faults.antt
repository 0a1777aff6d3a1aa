-- The faults of a document.
use Rattle.std.specs.Prelude.{◌≡◌, ◌⊎◌, ℕ, ◌==◌, ◌&&◌, ◌||◌, if◌then◌else◌, Bool, false, not, List, [], Option, Some, None, nat_lt, bytes_eq, count_by, find, unwrap_or, option_and_then}
use Rattle.std.specs.Cmp.Lexicographic.{slice_cmp}
use Rattle.std.specs.List.{list_any}
use Rattle.std.specs.Ordering.{nat_cmp}
use Rattle.std.specs.declared.cmp.Ordering.TheVariants.{Less}
use Rattle.std.specs.Option.{option_map_or}
use Rattle.memory_map.specs.Name.{is_name}
use Rattle.toml.specs.Data.{Data, as_table, Members, no_members, get_member}
use Rattle.stub_file.specs.Document.{keys_in, items_at, natural_at, text_at, value_at}
use Rattle.stub_file.specs.Keys.{key_name}
use Rattle.stub_file.specs.Rules.{belongs, has_type, is_choice, is_in_range, is_present, is_required}
use Rattle.stub_file.specs.declared.fault.StubFault.{StubFault}
use Rattle.stub_file.specs.declared.fault.StubFault.TheVariants.{UnknownKey, WrongKind, OutOfRange, Both}
use Rattle.stub_file.specs.declared.fault.TheConstants.{FAULTS}
use Rattle.stub_file.specs.declared.keys.Key.TheVariants as key
use Rattle.stub_file.specs.declared.keys.Rule.{Rule}
use Rattle.stub_file.specs.declared.keys.TheConstants.{TOP_KEYS, STUB_KEYS, WRITE_KEYS}

-- some key has no rule
abbrev pub has_rule : List Rule → List ℕ → Bool
has_rule rules name = list_any (λ rule. bytes_eq (key_name rule.key) name) rules

unfoldable pub has_unknown_key : List Rule → Members → Bool
has_unknown_key rules t = list_any (λ name. not (has_rule rules name)) (keys_in t)

-- some value has a wrong type
abbrev pub is_wrong : Members → Rule → Bool
is_wrong t rule = option_map_or (λ d. not (has_type rule.kind d)) (value_at rule.key t) false

unfoldable pub has_wrong_type : List Rule → Members → Bool
has_wrong_type rules t = list_any (is_wrong t) rules

-- some required key is missing
abbrev pub is_missing : List ℕ → Members → Rule → Bool
is_missing reply t rule = is_required rule && belongs reply rule && not (is_present t rule)

unfoldable pub lacks_required : List Rule → List ℕ → Members → Bool
lacks_required rules reply t = list_any (is_missing reply t) rules

-- there are choices, and none was made
unfoldable pub has_choices : List Rule → List ℕ → Bool
has_choices rules reply = list_any (λ rule. is_choice rule && belongs reply rule) rules

unfoldable pub choices_made : List Rule → Members → ℕ
choices_made rules t = count_by (λ rule. is_choice rule && is_present t rule) rules

unfoldable pub has_wrong_kind : List Rule → List ℕ → Members → Bool
has_wrong_kind rules reply t =
    has_wrong_type rules t || lacks_required rules reply t || (has_choices rules reply && choices_made rules t == 0)

-- some value is out of its range
abbrev pub is_out : ℕ → Members → Rule → Bool
is_out args t rule = option_map_or (λ d. not (is_in_range args rule.kind d)) (value_at rule.key t) false

unfoldable pub is_out_of_range : List Rule → ℕ → Members → Bool
is_out_of_range rules args t = list_any (is_out args t) rules

-- a key of another reply, or two choices
unfoldable pub has_other_reply : List Rule → List ℕ → Members → Bool
has_other_reply rules reply t = list_any (λ rule. is_present t rule && not (belongs reply rule)) rules

unfoldable pub has_both : List Rule → List ℕ → Members → Bool
has_both rules reply t = has_other_reply rules reply t || nat_lt 1 (choices_made rules t)

-- whether a table has the fault, where its stub has this reply and so many bytes of arguments
unfoldable pub table_has : List Rule → List ℕ → ℕ → StubFault → Members → Bool
table_has rules reply args UnknownKey t = has_unknown_key rules t
table_has rules reply args WrongKind t = has_wrong_kind rules reply t
table_has rules reply args OutOfRange t = is_out_of_range rules args t
table_has rules reply args Both t = has_both rules reply t
table_has rules reply args _ t = false

-- the reply of a stub, and the bytes of its arguments
unfoldable pub reply_of : Members → List ℕ
reply_of t = unwrap_or (text_at key.Reply t) []

unfoldable pub args_of : Members → ℕ
args_of t = unwrap_or (natural_at key.Args t) 0

-- whether an item of `writes` is a table that has the fault
unfoldable pub write_has : ℕ → StubFault → Data → Bool
write_has args fault d = option_map_or (table_has WRITE_KEYS [] args fault) (as_table d) false

-- whether the table of a stub, or one of those in its `writes`, has the fault
unfoldable pub stub_has : StubFault → Members → Bool
stub_has fault t =
    table_has STUB_KEYS (reply_of t) (args_of t) fault t
    || list_any (write_has (args_of t) fault) (items_at key.Writes t)

-- the faults of a table, in their order
abbrev pub first_fault : (StubFault → Bool) → Option StubFault
first_fault has = find has FAULTS

-- the first fault of a stub with this name
unfoldable pub table_fault : Members → Option StubFault
table_fault t = first_fault (λ fault. stub_has fault t)

unfoldable pub stub_fault : List ℕ → Data → Option StubFault
stub_fault name d = if is_name name then option_map_or table_fault (as_table d) (Some WrongKind) else Some UnknownKey

-- the first fault at the top level
unfoldable pub top_fault : Members → Option StubFault
top_fault t = first_fault (λ fault. table_has TOP_KEYS [] 0 fault t)

-- the stubs of a document
abbrev pub stubs_in : Members → Members
stubs_in t = unwrap_or (option_and_then as_table (value_at key.Stub t)) no_members

-- no stub has a fault
abbrev pub AreFaultless : Members → Type 0
AreFaultless t = (name : List ℕ) (d : Data) → get_member name t ≡ Some d → stub_fault name d ≡ None

-- the fault of the first stub, in the byte order of the names, that has one
pub record IsFirstFault (t : Members) (fault : StubFault) : Type 0 where
  pub name : List ℕ
  pub value : Data
  pub there : get_member name t ≡ Some value
  pub has : stub_fault name value ≡ Some fault
  pub before : (other : List ℕ) (d : Data) → get_member other t ≡ Some d → slice_cmp nat_cmp other name ≡ Less → stub_fault other d ≡ None

-- the first fault of a document: one at the top level, or else one of the stubs
abbrev pub HasFault : Members → StubFault → Type 0
HasFault t fault = (top_fault t ≡ Some fault) ⊎ ((top_fault t ≡ None) × IsFirstFault (stubs_in t) fault)

abbrev pub IsFaultless : Members → Type 0
IsFaultless t = (top_fault t ≡ None) × AreFaultless (stubs_in t)

-- What a rule of `src/keys.rt` says of the value of its key.
use Rattle.std.specs.Prelude.{ℕ, ◌/◌, ◌%◌, ◌==◌, ◌&&◌, Bool, true, false, List, length, Option, Some, None, is_some, nat_eq, nat_le, nat_lt, bytes_eq}
use Rattle.std.specs.List.{list_all, list_any}
use Rattle.std.specs.Option.{option_map_or}
use Rattle.memory_map.specs.Alignment.{is_alignment}
use Rattle.toml.specs.Data.{Data, as_str, as_integer, as_bool, as_array, as_table, Members}
use Rattle.stub_file.specs.Document.{items_of, natural_of, value_at}
use Rattle.stub_file.specs.Keys.{word_name}
use Rattle.stub_file.specs.declared.keys.Kind.{Kind}
use Rattle.stub_file.specs.declared.keys.Kind.TheVariants as kind
use Rattle.stub_file.specs.declared.keys.Need.{Need}
use Rattle.stub_file.specs.declared.keys.Need.TheVariants.{Required, Choice}
use Rattle.stub_file.specs.declared.keys.Numbers.{Numbers}
use Rattle.stub_file.specs.declared.keys.Rule.{Rule}
use Rattle.stub_file.specs.declared.keys.Word.{Word}
use Rattle.stub_file.specs.declared.keys.TheConstants.{REPLIES}

-- an array of tables
abbrev pub items_are_tables : Data → Bool
items_are_tables d = is_some (as_array d) && list_all (λ item. is_some (as_table item)) (items_of d)

-- the TOML type of a value
abbrev pub has_type : Kind → Data → Bool
has_type (kind.Number numbers) d = is_some (as_integer d)
has_type kind.Bytes d = is_some (as_integer d)
has_type kind.Alignment d = is_some (as_integer d)
has_type kind.Index d = is_some (as_integer d)
has_type kind.Reply d = is_some (as_str d)
has_type kind.Truth d = is_some (as_bool d)
has_type kind.Writes d = items_are_tables d
has_type kind.Table d = is_some (as_table d)

abbrev pub is_among : Numbers → ℕ → Bool
is_among m n = nat_le m.low n && nat_le n m.high

-- a multiple of 4 up to 64
abbrev pub is_size_of_arguments : ℕ → Bool
is_size_of_arguments n = nat_le n 64 && n % 4 == 0

-- the index of one of the arguments, which have so many bytes
abbrev pub is_index : ℕ → ℕ → Bool
is_index args n = nat_lt n (args / 4)

abbrev pub is_reply : List ℕ → Bool
is_reply text = list_any (λ word. bytes_eq (word_name word) text) REPLIES

-- the range of a value, where the arguments of the stub have so many bytes
abbrev pub is_in_range : ℕ → Kind → Data → Bool
is_in_range args (kind.Number numbers) d = option_map_or (is_among numbers) (natural_of d) false
is_in_range args kind.Bytes d = option_map_or is_size_of_arguments (natural_of d) false
is_in_range args kind.Alignment d = option_map_or is_alignment (natural_of d) false
is_in_range args kind.Index d = option_map_or (is_index args) (natural_of d) false
is_in_range args kind.Reply d = option_map_or is_reply (as_str d) false
is_in_range args kind.Truth d = true
is_in_range args kind.Writes d = nat_le (length (items_of d)) 4
is_in_range args kind.Table d = true

abbrev pub is_present : Members → Rule → Bool
is_present t rule = is_some (value_at rule.key t)

-- whether the key belongs to this reply, or to each
abbrev pub is_word_of : List ℕ → Option Word → Bool
is_word_of reply None = true
is_word_of reply (Some word) = bytes_eq (word_name word) reply

abbrev pub belongs : List ℕ → Rule → Bool
belongs reply rule = is_word_of reply rule.reply

abbrev pub demands : Need → Bool
demands Required = true
demands _ = false

abbrev pub is_required : Rule → Bool
is_required rule = demands rule.need

abbrev pub offers : Need → Bool
offers Choice = true
offers _ = false

abbrev pub is_choice : Rule → Bool
is_choice rule = offers rule.need

-- What a value of a TOML document is, and what a table has at a key. A table lists its keys in byte order.
use Rattle.std.specs.Prelude.{ℕ, pos, Bool, List, [], ◌∷◌, Option, Some, None, option_and_then}
use Rattle.std.specs.Option.{option_map_or}
use Rattle.toml.specs.Data.{Data, integer, Items, no_items, item, Members, no_members, member, get_member, as_str, as_bool, as_array}
use Rattle.stub_file.specs.Keys.{key_name}
use Rattle.stub_file.specs.declared.keys.Key.{Key}

-- the keys of a table
abbrev pub keys_in : Members → List (List ℕ)
keys_in no_members = []
keys_in (member key d t) = key ∷ keys_in t

-- the items of an array
abbrev pub items_in : Items → List Data
items_in no_items = []
items_in (item d ds) = d ∷ items_in ds

-- the number, of an integer that is not negative
abbrev pub natural_of : Data → Option ℕ
natural_of (integer (pos n)) = Some n
natural_of _ = None

-- the items of an array, and none of any other value
abbrev pub items_of : Data → List Data
items_of d = option_map_or items_in (as_array d) []

abbrev pub value_at : Key → Members → Option Data
value_at key t = get_member (key_name key) t

abbrev pub natural_at : Key → Members → Option ℕ
natural_at key t = option_and_then natural_of (value_at key t)

abbrev pub text_at : Key → Members → Option (List ℕ)
text_at key t = option_and_then as_str (value_at key t)

abbrev pub truth_at : Key → Members → Option Bool
truth_at key t = option_and_then as_bool (value_at key t)

abbrev pub items_at : Key → Members → List Data
items_at key t = option_map_or items_of (value_at key t) []

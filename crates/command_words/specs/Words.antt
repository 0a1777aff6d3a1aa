-- The words of the command line after the program's name.
use Rattle.std.specs.Prelude.{ℕ, Bool, true, false, not, ◌&&◌, ◌||◌, ◌==◌, List, [], ◌∷◌, ◌++◌, Option, None, Some, option_map, option_and_then, nat_le, nat_lt, map, length, codes, bytes_eq, if◌then◌else◌}
use Rattle.std.specs.List.{list_all, list_any, before_first, after_first}
use Rattle.std.specs.Str.{str_to_ascii_uppercase}
use Rattle.std.specs.Str.Parse.{digits_value}
use Rattle.text_fields.specs.Hex.{number_after}
use Rattle.demo_images.specs.Demo.{MOST_BLOCKS}
use Rattle.command_words.specs.declared.task.DomainName.{DomainName}
use Rattle.command_words.specs.declared.task.DomainName.TheVariants.{Flat, Bounded, Interval}
use Rattle.command_words.specs.declared.task.Options.{Options}
use Rattle.command_words.specs.declared.task.TextVersion.{TextVersion}
use Rattle.command_words.specs.declared.task.TextVersion.TheVariants.{First, Second}

-- what is done with an image, with the names of the further inputs in the order of the words
pub data Task : Type 0 where
  Recover : Options → TextVersion → Task
  ListImage : Task
  -- an address and a count
  Decode : ℕ → ℕ → Task
  -- a start file and a number of steps
  Run : List ℕ → ℕ → Task
  -- an automaton and a record
  Replay : List ℕ → List ℕ → Task
  -- `--k` and `--budget`
  Tabulate : ℕ → ℕ → Task
  -- a table
  Check : List ℕ → Task

-- the names of an image's file and of its stub file, and what is done with the image
pub record ImageCommand : Type 0 where
  pub image : List ℕ
  pub stubs : Option (List ℕ)
  pub task : Task

-- a command: one on an image, or one that explores the demo image of so many blocks
pub data Command : Type 0 where
  OnImage : ImageCommand → Command
  Demo : ℕ → Options → Command

abbrev pub on_image : List ℕ → Option (List ℕ) → Task → Command
on_image image stubs task = OnImage (record { image = image; stubs = stubs; task = task })

-- an option begins with a dash and is longer than that
abbrev pub is_option : List ℕ → Bool
is_option [] = false
is_option (first ∷ rest) = (first == 45) && not (length rest == 0)

-- the word behind which no word is an option
abbrev pub is_end_of_options : List ℕ → Bool
is_end_of_options word = bytes_eq word (codes "--")

-- eight hexadecimal digits, of either case each
abbrev pub address_of : List ℕ → Option ℕ
address_of word = if length word == 8 then number_after 0 (str_to_ascii_uppercase word) else None

-- a number is 1 to 10 decimal digits
abbrev pub is_digit : ℕ → Bool
is_digit c = nat_le 48 c && nat_le c 57

abbrev pub is_number : List ℕ → Bool
is_number word = nat_le 1 (length word) && nat_le (length word) 10 && list_all is_digit word

-- the number that a word writes, where it is in a range, bounds included
abbrev pub is_within : ℕ → ℕ → ℕ → Bool
is_within least most n = nat_le least n && nat_le n most

abbrev pub number_within : ℕ → ℕ → List ℕ → Option ℕ
number_within least most word = if is_number word && is_within least most (digits_value 10 word) then Some (digits_value 10 word) else None

-- how many instructions `decode` lists, at most
abbrev pub COUNT_LIMIT : ℕ
COUNT_LIMIT = 100000

-- how many steps `run` makes, at most
abbrev pub STEPS_LIMIT : ℕ
STEPS_LIMIT = 1000000

-- `--k`: how many values of one rank a location sees before they are widened, where the words do not say, and at most
abbrev pub K_DEFAULT : ℕ
K_DEFAULT = 32

abbrev pub K_LIMIT : ℕ
K_LIMIT = 1024

-- `--budget`: how many rows are expanded, where the words do not say, and at most
abbrev pub BUDGET_DEFAULT : ℕ
BUDGET_DEFAULT = 100000

abbrev pub BUDGET_LIMIT : ℕ
BUDGET_LIMIT = 1000000

-- words are read in pieces: an option, named with its dashes, and its value, or a positional word, which has no option.
-- An option that lacks its value has the empty one, which none takes
pub record Piece : Type 0 where
  pub option : Option (List ℕ)
  pub value : List ℕ

abbrev pub is_equals : ℕ → Bool
is_equals c = c == 61

-- the piece of a word that does not look at the next one: a positional word, or `--x=VALUE`
abbrev pub piece_alone : List ℕ → Piece
piece_alone word =
    if is_option word then record { option = Some (before_first is_equals word); value = after_first is_equals word }
    else record { option = None; value = word }

-- an option without an equals sign has its value in the next word
abbrev pub takes_next : List ℕ → Bool
takes_next word = is_option word && not (list_any is_equals word)

abbrev pub pieces : List (List ℕ) → List Piece
pieces [] = []
pieces (word ∷ []) = piece_alone word ∷ []
pieces (word ∷ next ∷ words) =
    if takes_next word && not (is_option next) then record { option = Some word; value = next } ∷ pieces words
    else piece_alone word ∷ pieces (next ∷ words)

-- whether a piece is of an option, or is positional where none is asked for
abbrev pub is_same : Option (List ℕ) → Option (List ℕ) → Bool
is_same None None = true
is_same None (Some other) = false
is_same (Some option) None = false
is_same (Some option) (Some other) = bytes_eq option other

-- what was given to an option, in order, or the positional words
abbrev pub values_of : Option (List ℕ) → List Piece → List (List ℕ)
values_of option [] = []
values_of option (piece ∷ rest) = if is_same piece.option option then piece.value ∷ values_of option rest else values_of option rest

-- ---- what is given to a command

-- an option with its dashes
abbrev pub dashed : List ℕ → List ℕ
dashed name = 45 ∷ 45 ∷ name

abbrev pub plain_piece : List ℕ → Piece
plain_piece word = record { option = None; value = word }

-- the word `--` makes all later words positional
abbrev pub all_pieces : List (List ℕ) → List Piece
all_pieces words = pieces (before_first is_end_of_options words) ++ map plain_piece (after_first is_end_of_options words)

abbrev pub is_unknown : List (List ℕ) → Option (List ℕ) → Bool
is_unknown options None = false
is_unknown options (Some option) = not (list_any (λ name. bytes_eq (dashed name) option) options)

abbrev pub is_filled : List ℕ → Bool
is_filled word = nat_lt 0 (length word)

-- a piece of an option that is not the command's, or without a value, or an empty word
abbrev pub is_bad : List (List ℕ) → Piece → Bool
is_bad options piece = is_unknown options piece.option || not (is_filled piece.value)

-- an option is given at most once
abbrev pub is_repeated : List Piece → List ℕ → Bool
is_repeated given name = nat_lt 1 (length (values_of (Some (dashed name)) given))

abbrev pub is_refused : List (List ℕ) → List Piece → Bool
is_refused options given = list_any (is_bad options) given || list_any (is_repeated given) options

-- what is given to a command with these options
abbrev pub words_given : List (List ℕ) → List (List ℕ) → Option (List Piece)
words_given options words = if is_refused options (all_pieces words) then None else Some (all_pieces words)

-- ---- the commands

-- the values given to the option of a name
abbrev pub given_to : List ℕ → List Piece → List (List ℕ)
given_to name given = values_of (Some (dashed name)) given

-- the number given to an option, which has a default and a greatest value
abbrev pub number_given : ℕ → ℕ → List (List ℕ) → Option ℕ
number_given default most [] = Some default
number_given default most (value ∷ []) = number_within 1 most value
number_given default most (value ∷ next ∷ rest) = None

abbrev pub domain_named : List ℕ → Option DomainName
domain_named word =
    if bytes_eq word (codes "flat") then Some Flat
    else if bytes_eq word (codes "bounded") then Some Bounded
    else if bytes_eq word (codes "interval") then Some Interval
    else None

abbrev pub domain_given : List (List ℕ) → Option DomainName
domain_given [] = Some Bounded
domain_given (value ∷ []) = domain_named value
domain_given (value ∷ next ∷ rest) = None

-- options, where each of their values is there
abbrev pub options_with : Option ℕ → Option ℕ → Option DomainName → Option Options
options_with (Some k) (Some budget) (Some domain) = Some (record { k = k; budget = budget; domain = domain })
options_with _ _ _ = None

-- `--k`, `--budget` and `--domain`, each with its default and its range
abbrev pub options_of : List Piece → Option Options
options_of given =
    options_with
    (number_given K_DEFAULT K_LIMIT (given_to (codes "k") given))
    (number_given BUDGET_DEFAULT BUDGET_LIMIT (given_to (codes "budget") given))
    (domain_given (given_to (codes "domain") given))

-- the version of a text with a number
abbrev pub version_numbered : ℕ → TextVersion
version_numbered n = if n == 1 then First else Second

-- `--text`, the number of a version: 1, or 2, which is its default
abbrev pub version_of : List Piece → Option TextVersion
version_of given = option_map version_numbered (number_given 2 2 (given_to (codes "text") given))

-- exactly one positional word
abbrev pub only_word : List (List ℕ) → Option (List ℕ)
only_word (word ∷ []) = Some word
only_word _ = None

-- exactly two
pub record TwoWords : Type 0 where
  pub first : List ℕ
  pub second : List ℕ

abbrev pub two_words : List (List ℕ) → Option TwoWords
two_words (first ∷ second ∷ []) = Some (record { first = first; second = second })
two_words _ = None

-- exactly three
pub record ThreeWords : Type 0 where
  pub first : List ℕ
  pub second : List ℕ
  pub third : List ℕ

abbrev pub three_words : List (List ℕ) → Option ThreeWords
three_words (first ∷ second ∷ third ∷ []) = Some (record { first = first; second = second; third = third })
three_words _ = None

-- a file that may be left out
abbrev pub file_given : List (List ℕ) → Option (Option (List ℕ))
file_given [] = Some None
file_given (value ∷ []) = Some (Some value)
file_given (value ∷ next ∷ rest) = None

-- a command on an image, where the names of its files and what it does are there
abbrev pub asked_with : Option (List ℕ) → Option (Option (List ℕ)) → Option Task → Option Command
asked_with (Some image) (Some stubs) (Some task) = Some (on_image image stubs task)
asked_with _ _ _ = None

abbrev pub recover_with : Option Options → Option TextVersion → Option Task
recover_with (Some options) (Some version) = Some (Recover options version)
recover_with _ _ = None

-- `recover IMAGE` with its options
abbrev pub recover_given : List Piece → Option Command
recover_given given =
    asked_with (only_word (values_of None given)) (file_given (given_to (codes "stubs") given)) (recover_with (options_of given) (version_of given))

abbrev pub RECOVER_OPTIONS : List (List ℕ)
RECOVER_OPTIONS = codes "stubs" ∷ codes "k" ∷ codes "budget" ∷ codes "domain" ∷ codes "text" ∷ []

abbrev pub recover_of : List (List ℕ) → Option Command
recover_of words = option_and_then recover_given (words_given RECOVER_OPTIONS words)

-- `list IMAGE`, with `--stubs`
abbrev pub list_given : List Piece → Option Command
list_given given = asked_with (only_word (values_of None given)) (file_given (given_to (codes "stubs") given)) (Some ListImage)

abbrev pub STUBS_OPTION : List (List ℕ)
STUBS_OPTION = codes "stubs" ∷ []

abbrev pub list_of : List (List ℕ) → Option Command
list_of words = option_and_then list_given (words_given STUBS_OPTION words)

-- `decode IMAGE ADDRESS COUNT`
abbrev pub decoding : ThreeWords → Option Command
decoding words = option_and_then (λ at. option_map (λ n. on_image words.first None (Decode at n)) (number_within 1 COUNT_LIMIT words.third)) (address_of words.second)

abbrev pub decode_of : List (List ℕ) → Option Command
decode_of words = option_and_then (λ given. option_and_then decoding (three_words (values_of None given))) (words_given [] words)

-- `run IMAGE START STEPS`, with `--stubs`
abbrev pub running : Option (List ℕ) → ThreeWords → Option Command
running stubs words = option_map (λ steps. on_image words.first stubs (Run words.second steps)) (number_within 0 STEPS_LIMIT words.third)

abbrev pub run_given : List Piece → Option Command
run_given given = option_and_then (λ stubs. option_and_then (running stubs) (three_words (values_of None given))) (file_given (given_to (codes "stubs") given))

abbrev pub run_of : List (List ℕ) → Option Command
run_of words = option_and_then run_given (words_given STUBS_OPTION words)

-- `replay IMAGE AUTOMATON RECORD`, with `--stubs`
abbrev pub replaying : Option (List ℕ) → ThreeWords → Command
replaying stubs words = on_image words.first stubs (Replay words.second words.third)

abbrev pub replay_given : List Piece → Option Command
replay_given given = option_and_then (λ stubs. option_map (replaying stubs) (three_words (values_of None given))) (file_given (given_to (codes "stubs") given))

abbrev pub replay_of : List (List ℕ) → Option Command
replay_of words = option_and_then replay_given (words_given STUBS_OPTION words)

-- `table IMAGE`, with `--stubs`, `--k` and `--budget`
abbrev pub tabulate_with : Option ℕ → Option ℕ → Option Task
tabulate_with (Some k) (Some budget) = Some (Tabulate k budget)
tabulate_with _ _ = None

abbrev pub table_given : List Piece → Option Command
table_given given =
    asked_with (only_word (values_of None given)) (file_given (given_to (codes "stubs") given))
    (tabulate_with (number_given K_DEFAULT K_LIMIT (given_to (codes "k") given)) (number_given BUDGET_DEFAULT BUDGET_LIMIT (given_to (codes "budget") given)))

abbrev pub TABLE_OPTIONS : List (List ℕ)
TABLE_OPTIONS = codes "stubs" ∷ codes "k" ∷ codes "budget" ∷ []

abbrev pub table_of : List (List ℕ) → Option Command
table_of words = option_and_then table_given (words_given TABLE_OPTIONS words)

-- `check IMAGE TABLE`, with `--stubs`
abbrev pub checking : Option (List ℕ) → TwoWords → Command
checking stubs words = on_image words.first stubs (Check words.second)

abbrev pub check_given : List Piece → Option Command
check_given given = option_and_then (λ stubs. option_map (checking stubs) (two_words (values_of None given))) (file_given (given_to (codes "stubs") given))

abbrev pub check_of : List (List ℕ) → Option Command
check_of words = option_and_then check_given (words_given STUBS_OPTION words)

-- `demo N` with its options
abbrev pub demo_with : Option ℕ → Option Options → Option Command
demo_with (Some blocks) (Some options) = Some (Demo blocks options)
demo_with _ _ = None

abbrev pub demo_given : List Piece → Option Command
demo_given given = demo_with (option_and_then (number_within 0 MOST_BLOCKS) (only_word (values_of None given))) (options_of given)

abbrev pub DEMO_OPTIONS : List (List ℕ)
DEMO_OPTIONS = codes "k" ∷ codes "budget" ∷ codes "domain" ∷ []

abbrev pub demo_of : List (List ℕ) → Option Command
demo_of words = option_and_then demo_given (words_given DEMO_OPTIONS words)

-- the command that the words are; other words are none
abbrev pub command_of : List (List ℕ) → Option Command
command_of [] = None
command_of (command ∷ words) =
    if bytes_eq command (codes "recover") then recover_of words
    else if bytes_eq command (codes "list") then list_of words
    else if bytes_eq command (codes "decode") then decode_of words
    else if bytes_eq command (codes "run") then run_of words
    else if bytes_eq command (codes "replay") then replay_of words
    else if bytes_eq command (codes "table") then table_of words
    else if bytes_eq command (codes "check") then check_of words
    else if bytes_eq command (codes "demo") then demo_of words
    else None

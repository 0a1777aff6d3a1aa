-- What `clap` is told of a command, and what it is to read.
use Rattle.std.specs.Prelude.{◌≡◌, Bool, true, false, List, [], ◌∷◌, map, Option, None, Some, codes, unwrap_or, bytes_eq, Result, MatchResult, option_map, option_and_then}
use Rattle.std.specs.List.{list_any}
use Rattle.clap.specs.Walk.{Row, Rule, Text, all_of}
use Rattle.clap.specs.Simple.{App, new_rule, new_shape}
use Rattle.clap.specs.declared.builder.action.ArgAction.TheVariants.{Append, Set}
use Rattle.clap.specs.declared.builder.value_parser.ValueParser.TheVariants as vp
use Rattle.demo_images.specs.Demo.{MOST_BLOCKS}
use Rattle.command_words.specs.declared.task.Options.{Options}
use Rattle.command_words.specs.declared.task.TextVersion.{TextVersion}
use Rattle.command_words.specs.declared.words.ThreeWords.{ThreeWords as ThreeWordsGiven}
use Rattle.command_words.specs.declared.words.TwoWords.{TwoWords as TwoWordsGiven}
use Rattle.command_words.specs.declared.task.Task.TheVariants as tasks
use Rattle.command_words.specs.declared.task.Task.{Task as TaskGiven}
use Rattle.command_words.specs.declared.task.Asked.{Asked}
use Rattle.command_words.specs.declared.task.Asked.TheVariants as asked
use Rattle.command_words.specs.declared.words.WordsFault.{WordsFault}
use Rattle.command_words.specs.declared.words.WordsFault.TheVariants.{Usage}
use Rattle.command_words.specs.Words.{Piece, Task, Recover, ListImage, Decode, Run, Replay, Tabulate, Check, Command, Demo, dashed, values_of, is_refused, on_image, asked_with, recover_with, demo_with, options_with, version_numbered, number_given, number_within, domain_given, file_given, only_word, ThreeWords, TwoWords, three_words, two_words, decoding, running, replaying, tabulate_with, checking, K_DEFAULT, K_LIMIT, BUDGET_DEFAULT, BUDGET_LIMIT}

-- the id of the positional words
abbrev pub WORDS : Text
WORDS = codes "words"

-- `--NAME VALUE`
abbrev pub option_rule : Text → Rule
option_rule name = record (new_rule name) { long = Some name; action = Some Set; parser = Some vp.NonEmptyString }

abbrev pub words_rule : Rule
words_rule = record (new_rule WORDS) { action = Some Append; parser = Some vp.NonEmptyString }

-- a command with these options and any number of positional words
abbrev pub reader : Text → List Text → App
reader name options = record {
  top = record (new_shape name) { rules = words_rule ∷ map option_rule options; disable_help_flag = true };
  subs = [];
}

abbrev pub is_known : Text → List Text → Bool
is_known name options = list_any (λ option. bytes_eq option name) options

-- the values in the row of an id
abbrev pub listed : Text → List Row → List Text
listed id rows = unwrap_or (all_of id rows) []

-- the rows hold what was given
pub record IsRead (options : List Text) (given : List Piece) (rows : List Row) : Type 0 where
  pub accepted : is_refused options given ≡ false
  pub words : listed WORDS rows ≡ values_of None given
  pub named : (name : Text) → is_known name options ≡ true → listed name rows ≡ values_of (Some (dashed name)) given

-- the options of an analysis in the rows
abbrev pub options_read : List Row → Option Options
options_read rows =
    options_with
    (number_given K_DEFAULT K_LIMIT (listed (codes "k") rows))
    (number_given BUDGET_DEFAULT BUDGET_LIMIT (listed (codes "budget") rows))
    (domain_given (listed (codes "domain") rows))

abbrev pub stubs_read : List Row → Option (Option Text)
stubs_read rows = file_given (listed (codes "stubs") rows)

abbrev pub version_read : List Row → Option TextVersion
version_read rows = option_map version_numbered (number_given 2 2 (listed (codes "text") rows))

-- what each command makes of the rows
abbrev pub recover_read : List Row → Option Command
recover_read rows = asked_with (only_word (listed WORDS rows)) (stubs_read rows) (recover_with (options_read rows) (version_read rows))

abbrev pub list_read : List Row → Option Command
list_read rows = asked_with (only_word (listed WORDS rows)) (stubs_read rows) (Some ListImage)

abbrev pub decode_read : List Row → Option Command
decode_read rows = option_and_then decoding (three_words (listed WORDS rows))

abbrev pub run_read : List Row → Option Command
run_read rows = option_and_then (λ stubs. option_and_then (running stubs) (three_words (listed WORDS rows))) (stubs_read rows)

abbrev pub replay_read : List Row → Option Command
replay_read rows = option_and_then (λ stubs. option_map (replaying stubs) (three_words (listed WORDS rows))) (stubs_read rows)

abbrev pub table_read : List Row → Option Command
table_read rows =
    asked_with (only_word (listed WORDS rows)) (stubs_read rows)
    (tabulate_with (number_given K_DEFAULT K_LIMIT (listed (codes "k") rows)) (number_given BUDGET_DEFAULT BUDGET_LIMIT (listed (codes "budget") rows)))

abbrev pub check_read : List Row → Option Command
check_read rows = option_and_then (λ stubs. option_map (checking stubs) (two_words (listed WORDS rows))) (stubs_read rows)

abbrev pub demo_read : List Row → Option Command
demo_read rows = demo_with (option_and_then (number_within 0 MOST_BLOCKS) (only_word (listed WORDS rows))) (options_read rows)

abbrev pub task_of : TaskGiven → Task
task_of (tasks.Recover options version) = Recover options version
task_of tasks.List = ListImage
task_of (tasks.Decode address count) = Decode address count
task_of (tasks.Run start steps) = Run start.now steps
task_of (tasks.Replay automaton taken) = Replay automaton.now taken.now
task_of (tasks.Tabulate k budget) = Tabulate k budget
task_of (tasks.Check table) = Check table.now

abbrev pub two_of : TwoWordsGiven → TwoWords
two_of words = record { first = words.first.now; second = words.second.now }

abbrev pub three_of : ThreeWordsGiven → ThreeWords
three_of words = record { first = words.first.now; second = words.second.now; third = words.third.now }

abbrev pub asked_of : Asked → Command
asked_of (asked.OnImage command) = on_image command.image.now (option_map (λ s. s.now) command.stubs) (task_of command.task)
asked_of (asked.Demo blocks options) = Demo blocks options

-- an answer is the command, a refusal comes only where there is none, and memory may be wanting at any words
abbrev pub Answers : Result Asked WordsFault → Option Command → Type 0
Answers result wanted = MatchResult result (λ a. wanted ≡ Some (asked_of a)) (λ fault. fault ≡ Usage → wanted ≡ None)

-- The inputs that a command makes itself have no fault.
use Rattle.std.proofs.Common.{◌≡◌, ℕ, ◌≤◌, Bool, true, false, cond, List, [], ◌∷◌, ◌++◌, length, Option, Some, None, codes, refl, ap, subst, sym, ◌∙◌, arith}
use Rattle.std.specs.Prelude.{⊤, IsSomeAnd, bytes_eq, nat_le, option_and_then, ◌&&◌}
use Rattle.std.specs.Option.{option_map}
use Rattle.std.specs.Str.Parse.{digits_value}
use Rattle.std.proofs.lemmas.Bool.{leb-true, and_parts}
use Rattle.stub_file.specs.Stubs.{Refuses}
use Rattle.stub_file.specs.declared.fault.StubFault.{StubFault}
use Rattle.stub_file.specs.declared.fault.StubFault.TheVariants.{Memory}
use Rattle.image_loader.specs.Loading.{load_of, first_fault, fault_in}
use Rattle.demo_images.specs.Demo.{demo_image, demo_stubs, MOST_BLOCKS}
use Rattle.demo_loading.proofs.Images.{images_load}
use Rattle.demo_loading.proofs.Stubs.{stubs_are_read}
use Rattle.command_words.specs.declared.task.Options.{Options}
use Rattle.command_words.specs.Words.{Command, OnImage, Demo, Task, Recover, ListImage, Decode, Run, Replay, Tabulate, Check, Piece, ThreeWords, TwoWords, asked_with, address_of, number_within, is_number, is_within, COUNT_LIMIT, STEPS_LIMIT, decoding, running, replaying, checking, demo_with, options_of, only_word, values_of, words_given, recover_given, recover_of, RECOVER_OPTIONS, list_given, list_of, STUBS_OPTION, three_words, two_words, decode_of, file_given, given_to, run_given, run_of, replay_given, replay_of, table_given, table_of, TABLE_OPTIONS, check_given, check_of, demo_given, demo_of, DEMO_OPTIONS, on_image, command_of}
use Rattle.jakstab_core.specs.declared.status.Status.{Status}
use Rattle.jakstab_core.specs.declared.status.Status.TheVariants.{ImageRefused, StubsRefused}
use Rattle.jakstab_core.specs.Inputs.{Origin, File, Made, Kind, ImageFile, StubFile, Source, IsFaulty, stub_number, sources_of, stub_sources, named_file, task_sources}

-- ---- a demo has no more blocks than the words allow

abbrev HasFewBlocks : Command → Type 0
HasFewBlocks (OnImage command) = ⊤
HasFewBlocks (Demo blocks options) = blocks ≤ MOST_BLOCKS

abbrev IsFew : Option Command → Type 0
IsFew None = ⊤
IsFew (Some command) = HasFewBlocks command

few_if : (test : Bool) (first second : Option Command) → IsFew first → IsFew second → IsFew (cond test first second)
few_if true first second h k = h
few_if false first second h k = k

few_then : {A : Type 0} (f : A → Option Command) → ((x : A) → IsFew (f x)) → (o : Option A) → IsFew (option_and_then f o)
few_then f h None = tt
few_then f h (Some x) = h x

few_map : {A : Type 0} (f : A → Command) → ((x : A) → HasFewBlocks (f x)) → (o : Option A) → IsFew (option_map f o)
few_map f h None = tt
few_map f h (Some x) = h x

few_asked : (image : Option (List ℕ)) (stubs : Option (Option (List ℕ))) (task : Option Task) → IsFew (asked_with image stubs task)
few_asked None stubs task = tt
few_asked (Some image) None task = tt
few_asked (Some image) (Some stubs) None = tt
few_asked (Some image) (Some stubs) (Some task) = tt

-- a number within a range is at most its end
abbrev IsAtMost : ℕ → Option ℕ → Type 0
IsAtMost most None = ⊤
IsAtMost most (Some n) = n ≤ most

at_most_if : (most n : ℕ) (number within : Bool) → (within ≡ true → n ≤ most) → IsAtMost most (cond (number && within) (Some n) None)
at_most_if most n true true h = h refl
at_most_if most n true false h = tt
at_most_if most n false within h = tt

number_at_most : (least most : ℕ) (word : List ℕ) → IsAtMost most (number_within least most word)
number_at_most least most word =
    let n = digits_value 10 word in
    at_most_if most n (is_number word) (is_within least most n) (λ e. leb-true n most (and_parts (nat_le least n) (nat_le n most) e).1)

blocks_at_most : (word : Option (List ℕ)) → IsAtMost MOST_BLOCKS (option_and_then (number_within 0 MOST_BLOCKS) word)
blocks_at_most None = tt
blocks_at_most (Some word) = number_at_most 0 MOST_BLOCKS word

few_demo : (blocks : Option ℕ) (options : Option Options) → IsAtMost MOST_BLOCKS blocks → IsFew (demo_with blocks options)
few_demo None options h = tt
few_demo (Some blocks) None h = tt
few_demo (Some blocks) (Some options) h = h

few_decoding : (three : ThreeWords) → IsFew (decoding three)
few_decoding three =
    few_then (λ at. option_map (λ n. on_image three.first None (Decode at n)) (number_within 1 COUNT_LIMIT three.third))
    (λ at. few_map (λ n. on_image three.first None (Decode at n)) (λ n. tt) (number_within 1 COUNT_LIMIT three.third))
    (address_of three.second)

few_decode : (given : List Piece) → IsFew (option_and_then decoding (three_words (values_of None given)))
few_decode given = few_then decoding few_decoding (three_words (values_of None given))

few_running : (stubs : Option (List ℕ)) (three : ThreeWords) → IsFew (running stubs three)
few_running stubs three = few_map (λ steps. on_image three.first stubs (Run three.second steps)) (λ steps. tt) (number_within 0 STEPS_LIMIT three.third)

few_run : (given : List Piece) → IsFew (run_given given)
few_run given =
    let words = values_of None given in
    few_then (λ stubs. option_and_then (running stubs) (three_words words)) (λ stubs. few_then (running stubs) (few_running stubs) (three_words words)) (file_given (given_to (codes "stubs") given))

few_replay : (given : List Piece) → IsFew (replay_given given)
few_replay given =
    let words = values_of None given in
    few_then (λ stubs. option_map (replaying stubs) (three_words words)) (λ stubs. few_map (replaying stubs) (λ three. tt) (three_words words)) (file_given (given_to (codes "stubs") given))

few_check : (given : List Piece) → IsFew (check_given given)
few_check given =
    let words = values_of None given in
    few_then (λ stubs. option_map (checking stubs) (two_words words)) (λ stubs. few_map (checking stubs) (λ two. tt) (two_words words)) (file_given (given_to (codes "stubs") given))

few_command : (words : List (List ℕ)) → IsFew (command_of words)
few_command [] = tt
few_command (command ∷ words) =
    few_if (bytes_eq command (codes "recover")) _ _ (few_then recover_given (λ given. few_asked _ _ _) (words_given RECOVER_OPTIONS words))
    (few_if (bytes_eq command (codes "list")) _ _ (few_then list_given (λ given. few_asked _ _ _) (words_given STUBS_OPTION words))
    (few_if (bytes_eq command (codes "decode")) _ _ (few_then (λ given. option_and_then decoding (three_words (values_of None given))) few_decode (words_given [] words))
    (few_if (bytes_eq command (codes "run")) _ _ (few_then run_given few_run (words_given STUBS_OPTION words))
    (few_if (bytes_eq command (codes "replay")) _ _ (few_then replay_given few_replay (words_given STUBS_OPTION words))
    (few_if (bytes_eq command (codes "table")) _ _ (few_then table_given (λ given. few_asked _ _ _) (words_given TABLE_OPTIONS words))
    (few_if (bytes_eq command (codes "check")) _ _ (few_then check_given few_check (words_given STUBS_OPTION words))
    (few_if (bytes_eq command (codes "demo")) _ _ (few_then demo_given (λ given. few_demo _ _ (blocks_at_most (only_word (values_of None given)))) (words_given DEMO_OPTIONS words)) tt)))))))

pub few_blocks : (words : List (List ℕ)) (blocks : ℕ) (options : Options) → command_of words ≡ Some (Demo blocks options) → blocks ≤ MOST_BLOCKS
few_blocks words blocks options accepted = subst IsFew accepted (few_command words)

-- ---- what a command makes is fine

abbrev pub IsMadeFine : Kind → Origin → Type 0
IsMadeFine kind (File name) = ⊤
IsMadeFine kind (Made made) = (status : Status) → IsFaulty kind made status → ⊥

abbrev pub AreMadeFine : List Source → Type 0
AreMadeFine [] = ⊤
AreMadeFine (s ∷ rest) = IsMadeFine s.kind s.origin × AreMadeFine rest

image_fine : (n : ℕ) → n ≤ MOST_BLOCKS → (status : Status) → IsFaulty ImageFile (demo_image n) status → ⊥
image_fine n few status faulty =
    let none : first_fault (demo_image n) ≡ None = ap fault_in (images_load n few) in
    let P : Option ℕ → Type 0 = λ o. IsSomeAnd o (λ number. status ≡ ImageRefused number) in
    subst P none faulty

stubs_fine : (status : Status) → IsFaulty StubFile demo_stubs status → ⊥
stubs_fine status faulty =
    let P : StubFault → Type 0 = λ fault. IsSomeAnd (stub_number fault) (λ number. status ≡ StubsRefused number) in
    subst P (stubs_are_read faulty.0 faulty.1) faulty.2

task_fine : (task : Task) → AreMadeFine (task_sources task)
task_fine (Recover options version) = tt
task_fine ListImage = tt
task_fine (Decode address count) = tt
task_fine (Run start steps) = (tt, tt)
task_fine (Replay automaton taken) = (tt, (tt, tt))
task_fine (Tabulate k budget) = tt
task_fine (Check table) = (tt, tt)

files_fine : (stubs : Option (List ℕ)) (task : Task) → AreMadeFine (stub_sources (named_file stubs) ++ task_sources task)
files_fine None task = task_fine task
files_fine (Some name) task = (tt, task_fine task)

pub made_fine : (words : List (List ℕ)) (command : Command) → command_of words ≡ Some command → AreMadeFine (sources_of command)
made_fine words (OnImage command) accepted = (tt, files_fine command.stubs command.task)
made_fine words (Demo blocks options) accepted = (image_fine blocks (few_blocks words blocks options accepted), (stubs_fine, tt))

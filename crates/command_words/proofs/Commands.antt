-- What was read of the words of each command is the command that they are.
use Rattle.std.proofs.Common.{◌≡◌, Bool, cond, true, false, refl, sym, ap, subst, List, [], ◌∷◌, map, length, Option, Some, None, codes, arith, ◌≤◌, String, string_bytes}
use Rattle.std.specs.List.{slice_index_or}
use Rattle.std.specs.Option.{ok_or, option_map, option_and_then}
use Rattle.std.specs.Prelude.{bytes_eq}
use Rattle.clap.specs.Walk.{Text, Row}
use Rattle.command_words.specs.declared.task.Asked.{Asked}
use Rattle.command_words.specs.declared.words.WordsFault.TheVariants.{Usage}
use Rattle.command_words.specs.Words.{Piece, Command, RECOVER_OPTIONS, STUBS_OPTION, TABLE_OPTIONS, DEMO_OPTIONS, all_pieces, is_refused, values_of, three_words, decoding, recover_given, recover_of, list_given, list_of, decode_of, run_given, run_of, replay_given, replay_of, table_given, table_of, check_given, check_of, demo_given, demo_of, command_of}
use Rattle.command_words.specs.Reader.{recover_read, list_read, decode_read, run_read, replay_read, table_read, check_read, demo_read, asked_of, IsRead, Answers}
use Rattle.command_words.proofs.ReaderLemmas.{same_text}

-- words of which something is refused are none of the command's
pub given_refused : (options words : List Text) (f : List Piece → Option Command) → is_refused options (all_pieces words) ≡ true
    → option_and_then f (cond (is_refused options (all_pieces words)) None (Some (all_pieces words))) ≡ None
given_refused options words f refused = rw refused refl

pub given_accepted : (options words : List Text) (f : List Piece → Option Command) → is_refused options (all_pieces words) ≡ false
    → f (all_pieces words) ≡ option_and_then f (cond (is_refused options (all_pieces words)) None (Some (all_pieces words)))
given_accepted options words f accepted = rw accepted refl

-- ---- `recover`

pub recover_exact : (words : List Text) (rows : List Row) → IsRead RECOVER_OPTIONS (all_pieces words) rows → recover_read rows ≡ recover_of words
recover_exact words rows r =
    rw (r.words, r.named (codes "stubs") refl, r.named (codes "k") refl, r.named (codes "budget") refl, r.named (codes "domain") refl, r.named (codes "text") refl) (given_accepted RECOVER_OPTIONS words recover_given r.accepted)

pub recover_refused : (words : List Text) → is_refused RECOVER_OPTIONS (all_pieces words) ≡ true → recover_of words ≡ None
recover_refused words refused = given_refused RECOVER_OPTIONS words recover_given refused

-- ---- `list`

pub list_exact : (words : List Text) (rows : List Row) → IsRead STUBS_OPTION (all_pieces words) rows → list_read rows ≡ list_of words
list_exact words rows r =
    rw (r.words, r.named (codes "stubs") refl) (given_accepted STUBS_OPTION words list_given r.accepted)

pub list_refused : (words : List Text) → is_refused STUBS_OPTION (all_pieces words) ≡ true → list_of words ≡ None
list_refused words refused = given_refused STUBS_OPTION words list_given refused

-- ---- `decode`

pub decode_exact : (words : List Text) (rows : List Row) → IsRead [] (all_pieces words) rows → decode_read rows ≡ decode_of words
decode_exact words rows r =
    rw (r.words) (given_accepted [] words (λ given. option_and_then decoding (three_words (values_of None given))) r.accepted)

pub decode_refused : (words : List Text) → is_refused [] (all_pieces words) ≡ true → decode_of words ≡ None
decode_refused words refused = given_refused [] words (λ given. option_and_then decoding (three_words (values_of None given))) refused

-- ---- `run`

pub run_exact : (words : List Text) (rows : List Row) → IsRead STUBS_OPTION (all_pieces words) rows → run_read rows ≡ run_of words
run_exact words rows r =
    rw (r.words, r.named (codes "stubs") refl) (given_accepted STUBS_OPTION words run_given r.accepted)

pub run_refused : (words : List Text) → is_refused STUBS_OPTION (all_pieces words) ≡ true → run_of words ≡ None
run_refused words refused = given_refused STUBS_OPTION words run_given refused

-- ---- `replay`

pub replay_exact : (words : List Text) (rows : List Row) → IsRead STUBS_OPTION (all_pieces words) rows → replay_read rows ≡ replay_of words
replay_exact words rows r =
    rw (r.words, r.named (codes "stubs") refl) (given_accepted STUBS_OPTION words replay_given r.accepted)

pub replay_refused : (words : List Text) → is_refused STUBS_OPTION (all_pieces words) ≡ true → replay_of words ≡ None
replay_refused words refused = given_refused STUBS_OPTION words replay_given refused

-- ---- `table`

pub table_exact : (words : List Text) (rows : List Row) → IsRead TABLE_OPTIONS (all_pieces words) rows → table_read rows ≡ table_of words
table_exact words rows r =
    rw (r.words, r.named (codes "stubs") refl, r.named (codes "k") refl, r.named (codes "budget") refl) (given_accepted TABLE_OPTIONS words table_given r.accepted)

pub table_refused : (words : List Text) → is_refused TABLE_OPTIONS (all_pieces words) ≡ true → table_of words ≡ None
table_refused words refused = given_refused TABLE_OPTIONS words table_given refused

-- ---- `check`

pub check_exact : (words : List Text) (rows : List Row) → IsRead STUBS_OPTION (all_pieces words) rows → check_read rows ≡ check_of words
check_exact words rows r =
    rw (r.words, r.named (codes "stubs") refl) (given_accepted STUBS_OPTION words check_given r.accepted)

pub check_refused : (words : List Text) → is_refused STUBS_OPTION (all_pieces words) ≡ true → check_of words ≡ None
check_refused words refused = given_refused STUBS_OPTION words check_given refused

-- ---- `demo`

pub demo_exact : (words : List Text) (rows : List Row) → IsRead DEMO_OPTIONS (all_pieces words) rows → demo_read rows ≡ demo_of words
demo_exact words rows r =
    rw (r.words, r.named (codes "k") refl, r.named (codes "budget") refl, r.named (codes "domain") refl) (given_accepted DEMO_OPTIONS words demo_given r.accepted)

pub demo_refused : (words : List Text) → is_refused DEMO_OPTIONS (all_pieces words) ≡ true → demo_of words ≡ None
demo_refused words refused = given_refused DEMO_OPTIONS words demo_given refused

-- ---- what is answered

pub answers_ok : (o : Option Asked) (wanted : Option Command) → option_map asked_of o ≡ wanted → Answers (ok_or o Usage) wanted
answers_ok None wanted e = λ usage. sym e
answers_ok (Some asked) wanted e = sym e

-- a first word that is no command's name
pub is_other : (word : Text) (name : Text) → (word ≡ name → ⊥) → bytes_eq word name ≡ false
is_other word name other =
    let P : Bool → Type 0 = λ b. bytes_eq word name ≡ b → bytes_eq word name ≡ false in
    (elim (bytes_eq word name) as P [ true ↦ λ e. absurd (other (same_text word name e)) | false ↦ λ e. e ]) refl

pub record IsNoName (word : Text) : Type 0 where
  pub recover : word ≡ codes "recover" → ⊥
  pub list : word ≡ codes "list" → ⊥
  pub decode : word ≡ codes "decode" → ⊥
  pub run : word ≡ codes "run" → ⊥
  pub replay : word ≡ codes "replay" → ⊥
  pub table : word ≡ codes "table" → ⊥
  pub check : word ≡ codes "check" → ⊥
  pub demo : word ≡ codes "demo" → ⊥

pub other_command : {Z : Type 0} (words : List (String Z)) (first : String Z) → 1 ≤ length words → first ≡ slice_index_or words 0 first → IsNoName (string_bytes first) → command_of (map string_bytes words) ≡ None
other_command [] first some is other = absurd (omega arith)
other_command (word ∷ words) first some is other =
    let o : IsNoName (string_bytes word) = subst IsNoName (ap string_bytes is) other in
    let bytes : Text = string_bytes word in
    rw (
      is_other bytes (codes "recover") o.recover,
      is_other bytes (codes "list") o.list,
      is_other bytes (codes "decode") o.decode,
      is_other bytes (codes "run") o.run,
      is_other bytes (codes "replay") o.replay,
      is_other bytes (codes "table") o.table,
      is_other bytes (codes "check") o.check,
      is_other bytes (codes "demo") o.demo,
    ) refl

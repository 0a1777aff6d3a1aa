use Rattle.std.proofs.Common.{◌∙◌, subst, sym, refl, codes, drop, List, map, string_bytes, Result}
use Rattle.clap.specs.Words.{found_of, rows_of, Text}
use Rattle.command_words.specs.declared.task.Asked.{Asked}
use Rattle.command_words.specs.declared.words.WordsFault.{WordsFault}
use Rattle.command_words.specs.Words.{TABLE_OPTIONS, table_of}
use Rattle.command_words.specs.Reader.{Answers}
use Rattle.command_words.proofs.Commands.{answers_ok, table_exact, table_refused}
use Rattle.command_words.proofs.words.table_words.Goals as goal

pub returns-in-Ok-read : goal.returns-in-Ok-read
returns-in-Ok-read c =
    let words : List Text = drop 1 (map string_bytes c.args.words.now) in
    let P : Result Asked WordsFault → Type 0 = λ r. Answers r (table_of words) in
    subst P (sym c.ok_or.ensures.value) (answers_ok c.table_given.result (table_of words)
    (c.table_given.ensures ∙ table_exact words (rows_of (found_of c.in-Ok-read.matches)) (c.in-Ok-read.ensures (codes "table") TABLE_OPTIONS c.in-Ok.ensures refl refl)))

pub returns-in-Err : goal.returns-in-Err
returns-in-Err c = λ usage. table_refused (drop 1 (map string_bytes c.args.words.now)) (c.in-Err.ensures (codes "table") TABLE_OPTIONS c.in-Ok.ensures refl refl usage)

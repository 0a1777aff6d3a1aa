use Rattle.std.proofs.Common.{◌∙◌, sym}
use Rattle.stub_file.specs.Document.{text_at}
use Rattle.stub_file.specs.Faults.{reply_of}
use Rattle.stub_file.specs.declared.keys.Key.TheVariants as key
use Rattle.stub_file.proofs.Tables.{word_is, word_there}
use Rattle.toml.specs.View.{table_view}
use Rattle.stub_file.proofs.build.reply_word.Goals as goal

pub unreachable-requires : goal.unreachable-requires
unfolding reply_of
unreachable-requires c =
    word_there (text_at key.Reply (table_view c.args.table.now)) c.requires
    (rw (← c.reply_of.ensures) (sym c.word_named.ensures ∙ c.in-None.is))

pub returns : goal.returns
unfolding reply_of
returns c =
    word_is (text_at key.Reply (table_view c.args.table.now)) c.in-Some.word c.requires
    (rw (← c.reply_of.ensures) (sym c.word_named.ensures ∙ c.in-Some.is))

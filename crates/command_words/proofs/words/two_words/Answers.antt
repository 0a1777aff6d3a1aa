use Rattle.std.proofs.Common.{◌∙◌, sym, ap, map, Some, None}
use Rattle.clap.specs.Words.{found_of}
use Rattle.command_words.specs.Words.{two_words}
use Rattle.command_words.specs.Reader.{WORDS}
use Rattle.command_words.proofs.Getting.{listed_found}
use Rattle.command_words.proofs.words.two_words.Goals as goal

pub returns-in-Some : goal.returns-in-Some
returns-in-Some c =
    c.two_among.ensures ∙ ap two_words (sym (listed_found (found_of c.args.matches.now) WORDS (Some (map (λ s. s.now) c.in-Some.words.now)) c.in-Some.ensures))

pub returns-in-None : goal.returns-in-None
returns-in-None c = ap two_words (sym (listed_found (found_of c.args.matches.now) WORDS None c.in-None.ensures))

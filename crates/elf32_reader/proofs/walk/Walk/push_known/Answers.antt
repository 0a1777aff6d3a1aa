use Rattle.std.proofs.lemmas.Result.{MatchResult-weaker}
use Rattle.elf32_reader.proofs.Known.{pushed_known}
use Rattle.elf32_reader.proofs.walk.Walk.push_known.Goals as goal

pub returns-clause-exact : goal.returns-clause-exact
returns-clause-exact c =
    MatchResult-weaker c.push.result c.push.ensures
    (λ _ on. pushed_known c.args.lookup.now c.args.self.now c.push.new.self c.args.entry.now c.args.symbol.now c.args.index c.bias.result c.imported-meaning.result c.reloc_of.result c.requires c.imported-meaning.ensures c.bias.ensures c.reloc_of.ensures on)
    (λ e h. h)

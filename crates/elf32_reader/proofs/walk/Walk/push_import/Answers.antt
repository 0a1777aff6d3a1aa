use Rattle.std.proofs.Common.{Some, Err, ◌≡◌}
use Rattle.elf32_reader.specs.Walk.{step_import}
use Rattle.elf32_reader.specs.KnownNames.{AreKnown}
use Rattle.elf32_reader.proofs.Known.{known_pushed, on_ok}
use Rattle.elf32_reader.proofs.Walks.{imported_name, match_push}
use Rattle.elf32_reader.proofs.walk.Walk.push_import.Goals as goal

pub returns-in_ok-insert-in-Ok-clause-exact : goal.returns-in_ok-insert-in-Ok-clause-exact
returns-in_ok-insert-in-Ok-clause-exact c =
    match_push c.push.result _ _ (λ e. step_import c.args.lookup.now c.args.self.now c.args.entry.now c.args.symbol.now (Some c.args.name.now) ≡ Err e)
    (λ on. imported_name c.args.lookup.now c.self.inside.relocs.items c.self.inside.names c.args.self.now c.push.new.self c.args.entry.now c.args.symbol.now c.args.name.now c.in-Ok.index c.imported-meaning.result c.bias.result c.reloc_of.result c.index_of.new.self c.self.view_is c.in-Ok.ensures c.imported-meaning.ensures c.bias.ensures c.reloc_of.ensures on)
    c.push.ensures

pub returns-in_ok-insert-in-Ok-clause-known : goal.returns-in_ok-insert-in-Ok-clause-known
returns-in_ok-insert-in-Ok-clause-known c =
    on_ok c.push.result _ (AreKnown c.args.lookup.now c.push.new.self.names c.insert.new.self) _
    (λ on. known_pushed c.args.lookup.now c.args.self.now c.push.new.self c.self.inside.relocs.items c.self.inside.names c.index_of.new.self c.reloc_of.result c.args.known.now c.insert.new.self c.args.symbol.now c.args.name.now c.in-Ok.index c.self.view_is c.requires.known c.requires.found c.in-Ok.ensures c.in_ok-insert-in-Ok.ensures on)
    c.push.ensures

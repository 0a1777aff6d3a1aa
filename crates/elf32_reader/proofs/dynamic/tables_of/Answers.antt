use Rattle.std.proofs.Common.{◌∙◌}
use Rattle.elf32_reader.proofs.Sections.{entry_count_none, tables_none}
use Rattle.elf32_reader.proofs.dynamic.tables_of.Goals as goal

pub returns-then-most-eq0 : goal.returns-then-most-eq0
returns-then-most-eq0 c =
    let file = c.args.file.now in
    let h = c.args.header.now in
    c.no_tables.ensures ∙ tables_none file h.offset _ (entry_count_none file h.offset _ c.if-most-eq0.true)

use Rattle.std.proofs.Common.{◌∙◌, ap, sym, false, inr, Option}
use Rattle.std.specs.Prelude.{find}
use Rattle.std.specs.Option.{option_map_or}
use Rattle.elf32_reader.specs.declared.program_header.ProgramHeader.{ProgramHeader}
use Rattle.elf32_reader.specs.Headers.{bias_of}
use Rattle.elf32_reader.specs.Segments.{is_outside, segments}
use Rattle.elf32_reader.specs.Dynamic.{is_dynamic_section, tables, tables_fault}
use Rattle.elf32_reader.specs.Walk.{walk}
use Rattle.elf32_reader.specs.ElfFile.{laid_out, space_of, unless}
use Rattle.elf32_reader.specs.Shown.{shown}
use Rattle.elf32_reader.proofs.Files.{dynamic_fault-outside, dynamic_fault-tables}
use Rattle.elf32_reader.proofs.Walks.{rewritten_value}
use Rattle.elf32_reader.proofs.reader.read_after_segments.Goals as goal

pub returns-in-Some : goal.returns-in-Some
returns-in-Some c =
    let file = c.args.file.now in
    let header = c.find_dynamic_section.ensures ∙ ap (find is_dynamic_section) c.requires.headers in
    let inside = ap (λ (o : Option ProgramHeader). option_map_or (is_outside file) o false) (sym header) ∙ c.in-Some.ensures.1 in
    let rest = laid_out file (walk (space_of file)) in
    rewritten_value c.lay_out.result _ (unless (tables_fault (segments file) (bias_of file) (tables file)) rest) shown (ap (λ o. unless o rest) (dynamic_fault-tables file inside)) c.lay_out.ensures

pub returns-in-None : goal.returns-in-None
returns-in-None c =
    let file = c.args.file.now in
    let header = c.find_dynamic_section.ensures ∙ ap (find is_dynamic_section) c.requires.headers in
    let outside = ap (λ (o : Option ProgramHeader). option_map_or (is_outside file) o false) (sym header) ∙ c.in-None.ensures in
    inr (ap (λ o. unless o (laid_out file (walk (space_of file)))) (dynamic_fault-outside file outside))

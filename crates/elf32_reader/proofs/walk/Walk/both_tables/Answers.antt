use Rattle.elf32_reader.specs.Walk.{steps}
use Rattle.elf32_reader.proofs.Walks.{first_fault, second_table}
use Rattle.elf32_reader.proofs.walk.Walk.both_tables.Goals as goal

pub returns-in-Err : goal.returns-in-Err
returns-in-Err c = first_fault c.args.lookup.now c.args.self.now c.rel_table.result.now c.in-Err.fault c.rel_table.ensures c.in-Err.ensures.exact

pub returns : goal.returns
returns c =
    second_table c.args.lookup.now c.args.self.now c.steps.new.self c.steps-2.new.self c.rel_table.result.now c.jmprel_table.result.now c.steps-2.result c.rel_table.ensures c.jmprel_table.ensures c.in_default.ensures.exact c.steps-2.ensures.exact

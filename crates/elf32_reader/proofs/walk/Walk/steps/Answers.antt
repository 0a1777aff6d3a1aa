use Rattle.std.proofs.Common.{◌∙◌, ◌-◌, ◌/◌, arith, length, Ok}
use Rattle.elf32_reader.specs.Fields.{entry_at}
use Rattle.elf32_reader.specs.Walk.{entries, step, steps}
use Rattle.elf32_reader.proofs.Walks.{step_fault, step_done, steps-none}
use Rattle.elf32_reader.proofs.walk.Walk.steps.Goals as goal

pub returns-in-Err-clause-exact : goal.returns-in-Err-clause-exact
returns-in-Err-clause-exact c =
    step_fault c.args.lookup.now (steps c.args.lookup.now (Ok c.args.self.now) (entries c.args.table.now)) c.loop-i.self (entry_at c.args.table.now) c.loop-i.i (length c.args.table.now / 8) c.entry_at.result c.in-Err.fault c.loop-i-test.true c.entry_at.ensures c.loop-i.invariant.0 c.in-Err.ensures.exact

pub loop-i-preserved : goal.loop-i-preserved
loop-i-preserved c = (
  step_done c.args.lookup.now (steps c.args.lookup.now (Ok c.args.self.now) (entries c.args.table.now)) c.loop-i.self c.step.new.self (entry_at c.args.table.now) c.loop-i.i (length c.args.table.now / 8) c.entry_at.result c.loop-i-test.true c.entry_at.ensures c.loop-i.invariant.0 c.in_default.ensures.exact,
  c.in_default.ensures.known,
)

pub returns-clause-exact : goal.returns-clause-exact
returns-clause-exact c =
    let n = length c.args.table.now / 8 in
    c.loop-i.invariant.0 ∙ steps-none c.args.lookup.now (Ok c.loop-i.self) (entry_at c.args.table.now) c.loop-i.i (n - c.loop-i.i) (omega arith)

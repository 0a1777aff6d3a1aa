use Rattle.std.proofs.Common.{◌∙◌, refl, sym}
use Rattle.x86_machine.specs.StepBy.{fetched}
use Rattle.x86_machine.proofs.Taking.{instr_ends, instr_faulted, instr_next, instr_unlisted, leaves_ends}
use Rattle.x86_machine.proofs.machine.instruction.Goals as goal

pub returns-in-Next : goal.returns-in-Next
unfolding fetched
returns-in-Next c =
    let m = c.args.cells.now in
    instr_next c.as_slice.result.now c.args.choice.now m (c.as_slice.ensures.value ∙ c.fetch-bytes.ensures) c.in-Ok.i c.in-Ok.len c.run_stmts.new.state c.in-Ok.ensures.exact
    (sym (c.lift.ensures c.args.choice.now m (sym c.eip.ensures)) ∙ c.in-Next.ensures)

pub returns-in-Faulted : goal.returns-in-Faulted
unfolding fetched
returns-in-Faulted c =
    let m = c.args.cells.now in
    instr_faulted c.as_slice.result.now c.args.choice.now m (c.as_slice.ensures.value ∙ c.fetch-bytes.ensures) c.in-Ok.i c.in-Ok.len c.run_stmts.new.state c.in-Faulted.kind c.in-Ok.ensures.exact
    (sym (c.lift.ensures c.args.choice.now m (sym c.eip.ensures)) ∙ c.in-Faulted.ensures)

pub returns-in-Err-Truncated : goal.returns-in-Err-Truncated
unfolding fetched
returns-in-Err-Truncated c =
    let bytes = c.as_slice.result.now in
    let on = rw c.in-Err-Truncated.field-0-is at c.in-Err-Truncated.ensures.refused in
    (instr_ends bytes c.args.choice.now c.args.cells.now (c.as_slice.ensures.value ∙ c.fetch-bytes.ensures) c.in-Err-Truncated.ensures.exact on, refl)

pub returns-in-Err-NotListed : goal.returns-in-Err-NotListed
unfolding fetched
returns-in-Err-NotListed c =
    let bytes = c.as_slice.result.now in
    let leaves = rw c.in-Err-NotListed.field-0-is at c.in-Err-NotListed.ensures.refused in
    (instr_unlisted bytes c.args.choice.now c.args.cells.now (c.as_slice.ensures.value ∙ c.fetch-bytes.ensures) c.in-Err-NotListed.ensures.exact (leaves_ends _ bytes leaves), refl)

pub returns-in-Err-TooLong : goal.returns-in-Err-TooLong
unfolding fetched
returns-in-Err-TooLong c =
    let bytes = c.as_slice.result.now in
    let long = rw c.in-Err-TooLong.field-0-is at c.in-Err-TooLong.ensures.refused in
    (instr_unlisted bytes c.args.choice.now c.args.cells.now (c.as_slice.ensures.value ∙ c.fetch-bytes.ensures) c.in-Err-TooLong.ensures.exact long.1, refl)

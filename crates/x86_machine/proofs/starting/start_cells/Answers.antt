use Rattle.std.proofs.Common.{◌≡◌, ◌%◌, ◌∙◌, Err, None, Ok, Some, ap, inl, inr, sym, ⊎_elim}
use Rattle.std.proofs.lemmas.Result.{err_from_is_err_and}
use Rattle.memory_map.specs.Image.{is_pe}
use Rattle.memory_map.specs.Map.{all_apart}
use Rattle.memory_map.specs.State.{MachineState, memory}
use Rattle.statement_lang.specs.Filling.{bytes_of_fills}
use Rattle.x86_machine.specs.Started.{exit_word, stack_pointer, unset_zeros, with_fills}
use Rattle.x86_machine.proofs.Placing.{filled_as, filled_state, off_align, windows_leave, windows_share}
use Rattle.x86_machine.proofs.starting.start_cells.Goals as goal

pub returns-then-start-align-ne0 : goal.returns-then-start-align-ne0
returns-then-start-align-ne0 c =
    let s = c.args.start.now in
    inr (off_align c.args.image.now s (λ e. c.if-start-align-ne0.true (ap (λ n. stack_pointer s % n) c.align.ensures.align ∙ e)))

pub returns-then-not-are_windows_inside : goal.returns-then-not-are_windows_inside
returns-then-not-are_windows_inside c =
    let s = c.args.start.now in
    let aligned : stack_pointer s % c.args.image.now.align ≡ 0 = ap (λ n. stack_pointer s % n) (sym c.align.ensures.align) ∙ c.if-start-align-ne0.false in
    inr (windows_leave c.args.image.now s aligned (sym c.are_windows_inside.ensures ∙ c.if-not-are_windows_inside.true))

pub returns-in_err-cells : goal.returns-in_err-cells
returns-in_err-cells c =
    let s = c.args.start.now in
    let aligned : stack_pointer s % c.args.image.now.align ≡ 0 = ap (λ n. stack_pointer s % n) (sym c.align.ensures.align) ∙ c.if-start-align-ne0.false in
    let lie = sym c.are_windows_inside.ensures ∙ c.if-not-are_windows_inside.false in
    let p = err_from_is_err_and c.from_residual.result c.from_residual.ensures.1 in
    rw (p.1, p.2) (⊎_elim inl (λ h. inr (windows_share c.args.image.now s aligned lie h.1 ∙ ap Err (sym h.0))) c.in_err-cells.ensures)

pub returns-in-Some : goal.returns-in-Some
returns-in-Some c =
    let image = c.args.image.now in
    let s = c.args.start.now in
    let aligned : stack_pointer s % image.align ≡ 0 = ap (λ n. stack_pointer s % n) (sym c.align.ensures.align) ∙ c.if-start-align-ne0.false in
    let lie = sym c.are_windows_inside.ensures ∙ c.if-not-are_windows_inside.false in
    let apart = sym (ap (λ (m : MachineState). all_apart (memory m)) c.in_ok-cells.ensures.0) ∙ c.in_ok-cells.ensures.1 in
    inr (filled_as image s (Some c.in-Some.index) aligned lie apart (sym c.first_bad_fill.ensures ∙ c.in-Some.is))

pub returns : goal.returns
returns c =
    let image = c.args.image.now in
    let s = c.args.start.now in
    let aligned : stack_pointer s % image.align ≡ 0 = ap (λ n. stack_pointer s % n) (sym c.align.ensures.align) ∙ c.if-start-align-ne0.false in
    let lie = sym c.are_windows_inside.ensures ∙ c.if-not-are_windows_inside.false in
    let apart = sym (ap (λ (m : MachineState). all_apart (memory m)) c.in_ok-cells.ensures.0) ∙ c.in_ok-cells.ensures.1 in
    let unset = ap unset_zeros (c.as_slice.ensures ∙ c.unset.ensures) in
    let fills = ap bytes_of_fills c.as_slice-2.ensures in
    let m = c.fill_all.new.cells in
    filled_as image s None aligned lie apart (sym c.first_bad_fill.ensures ∙ c.in_default.is)
    ∙ ap Ok (filled_state image s c.in_ok-cells.cells c.zero_unset.new.cells m c.fill_exit_word.new.cells c.in_ok-cells.ensures.0
    (c.in_ok-zero_unset.ensures ∙ ap (λ l. with_fills l c.in_ok-cells.cells) unset)
    (c.fill_all.ensures ∙ ap (λ l. with_fills l c.zero_unset.new.cells) fills)
    (c.fill_exit_word.ensures ∙ ap (λ f. with_fills (exit_word (is_pe f) m.registers.esp) m) c.format.ensures))

use Rattle.std.proofs.Common.{◌≡◌, ◌<◌, ◌∙◌, ap, arith, inl, inr, length, map, subst, sym, ⊎_elim}
use Rattle.std.proofs.lemmas.Result.{MatchResult-weaker, err_from_is_err_and}
use Rattle.memory_map.specs.Map.{all_apart, is_in_user_space, range_of}
use Rattle.memory_map.specs.Range.{Range}
use Rattle.memory_map.specs.Start.{BASE_REACH}
use Rattle.memory_map.specs.State.{MachineState, memory}
use Rattle.statement_lang.specs.Cells.{flags_of}
use Rattle.x86_machine.specs.Started.{base_window, stack_window}
use Rattle.x86_machine.proofs.Placing.{empty_state, fs_placed, fs_shares, gs_placed, gs_shares, more_apart, new_state, one_apart, segments_placed, segments_share, window_mappable, with_fs, with_image}
use Rattle.x86_machine.proofs.StatesMeet.{lying}
use Rattle.x86_machine.proofs.starting.bare_cells.Goals as goal

pub with_segments-requires-clause-apart : goal.with_segments-requires-clause-apart
with_segments-requires-clause-apart c = ap (λ (m : MachineState). all_apart (memory m)) c.new-cells.ensures ∙ one_apart c.in_ok-stack.stack

pub returns-in_err-cells : goal.returns-in_err-cells
returns-in_err-cells c =
    let image = c.args.image.now in
    let s = c.args.start.now in
    let m = c.new-cells.result in
    let list = c.as_slice.result.now in
    let stack : c.in_ok-stack.stack ≡ stack_window s = c.in_ok-stack.ensures ∙ c.stack_window.ensures in
    let empty : m ≡ empty_state image s = new_state image s m c.stated_registers.result c.entry.result (flags_of c.status_of.result) c.in_ok-stack.stack c.new-cells.ensures c.stated_registers.ensures c.entry.ensures.entry c.status_of.ensures stack in
    let same : map range_of list ≡ image.segments = ap (map range_of) c.as_slice.ensures.segments ∙ c.segments.ensures.segments in
    let p = err_from_is_err_and c.from_residual-in_err-cells.result c.from_residual-in_err-cells.ensures.1 in
    rw (p.1, p.2) (⊎_elim inl (λ h. inr (h.0, segments_share image s m list empty same h.1)) c.in_err-cells.ensures)

pub with_range-requires-clause-some : goal.with_range-requires-clause-some
with_range-requires-clause-some c =
    let s = c.args.start.now in
    let is : c.in_ok-fs_window.fs_window ≡ base_window s.fs = c.in_ok-fs_window.ensures ∙ c.base_window.ensures in
    let own = window_mappable BASE_REACH BASE_REACH s.fs (omega arith) (lying s c.requires).fs in
    let P : Range → Type 0 = λ r. 0 < length r.bytes in
    subst P (sym is) own.some

pub with_range-requires-clause-inside : goal.with_range-requires-clause-inside
with_range-requires-clause-inside c =
    let s = c.args.start.now in
    let is : c.in_ok-fs_window.fs_window ≡ base_window s.fs = c.in_ok-fs_window.ensures ∙ c.base_window.ensures in
    let own = window_mappable BASE_REACH BASE_REACH s.fs (omega arith) (lying s c.requires).fs in
    ap is_in_user_space is ∙ own.inside

pub returns-in_err-cells-2 : goal.returns-in_err-cells-2
returns-in_err-cells-2 c =
    let image = c.args.image.now in
    let s = c.args.start.now in
    let m = c.new-cells.result in
    let list = c.as_slice.result.now in
    let stack : c.in_ok-stack.stack ≡ stack_window s = c.in_ok-stack.ensures ∙ c.stack_window.ensures in
    let empty : m ≡ empty_state image s = new_state image s m c.stated_registers.result c.entry.result (flags_of c.status_of.result) c.in_ok-stack.stack c.new-cells.ensures c.stated_registers.ensures c.entry.ensures.entry c.status_of.ensures stack in
    let same : map range_of list ≡ image.segments = ap (map range_of) c.as_slice.ensures.segments ∙ c.segments.ensures.segments in
    let placed : c.in_ok-cells.cells ≡ with_image image s = segments_placed image s m c.in_ok-cells.cells list empty same c.in_ok-cells.ensures.0 in
    let fs : c.in_ok-fs_window.fs_window ≡ base_window s.fs = c.in_ok-fs_window.ensures ∙ c.base_window.ensures in
    let p = err_from_is_err_and c.from_residual-in_err-cells-2.result c.from_residual-in_err-cells-2.ensures.1 in
    rw (p.1, p.2) (⊎_elim inl (λ h. inr (h.0, fs_shares image s c.in_ok-cells.cells c.in_ok-fs_window.fs_window placed fs h.1)) c.in_err-cells-2.ensures)

pub with_range-requires-2-clause-some : goal.with_range-requires-2-clause-some
with_range-requires-2-clause-some c =
    let s = c.args.start.now in
    let is : c.in_ok-gs_window.gs_window ≡ base_window s.gs = c.in_ok-gs_window.ensures ∙ c.base_window-2.ensures in
    let own = window_mappable BASE_REACH BASE_REACH s.gs (omega arith) (lying s c.requires).gs in
    let P : Range → Type 0 = λ r. 0 < length r.bytes in
    subst P (sym is) own.some

pub with_range-requires-2-clause-inside : goal.with_range-requires-2-clause-inside
with_range-requires-2-clause-inside c =
    let s = c.args.start.now in
    let is : c.in_ok-gs_window.gs_window ≡ base_window s.gs = c.in_ok-gs_window.ensures ∙ c.base_window-2.ensures in
    let own = window_mappable BASE_REACH BASE_REACH s.gs (omega arith) (lying s c.requires).gs in
    ap is_in_user_space is ∙ own.inside

pub returns : goal.returns
returns c =
    let image = c.args.image.now in
    let s = c.args.start.now in
    let m = c.new-cells.result in
    let list = c.as_slice.result.now in
    let stack : c.in_ok-stack.stack ≡ stack_window s = c.in_ok-stack.ensures ∙ c.stack_window.ensures in
    let empty : m ≡ empty_state image s = new_state image s m c.stated_registers.result c.entry.result (flags_of c.status_of.result) c.in_ok-stack.stack c.new-cells.ensures c.stated_registers.ensures c.entry.ensures.entry c.status_of.ensures stack in
    let same : map range_of list ≡ image.segments = ap (map range_of) c.as_slice.ensures.segments ∙ c.segments.ensures.segments in
    let placed : c.in_ok-cells.cells ≡ with_image image s = segments_placed image s m c.in_ok-cells.cells list empty same c.in_ok-cells.ensures.0 in
    let fs : c.in_ok-fs_window.fs_window ≡ base_window s.fs = c.in_ok-fs_window.ensures ∙ c.base_window.ensures in
    let placed' : c.in_ok-cells-2.cells ≡ with_fs image s = fs_placed image s c.in_ok-cells.cells c.in_ok-cells-2.cells c.in_ok-fs_window.fs_window placed fs c.in_ok-cells-2.ensures.0 in
    let gs : c.in_ok-gs_window.gs_window ≡ base_window s.gs = c.in_ok-gs_window.ensures ∙ c.base_window-2.ensures in
    let apart = more_apart image s c.in_ok-cells.cells c.in_ok-cells-2.cells c.in_ok-fs_window.fs_window c.in_ok-cells-2.ensures.0 c.in_ok-cells.ensures.1 c.in_ok-cells-2.ensures.1 in
    MatchResult-weaker c.with_range-2.result c.with_range-2.ensures (λ n h. (
      gs_placed image s c.in_ok-cells-2.cells n c.in_ok-gs_window.gs_window placed' gs h.0,
      more_apart image s c.in_ok-cells-2.cells n c.in_ok-gs_window.gs_window h.0 apart h.1,
    )) (λ fault h. ⊎_elim inl (λ k. inr (k.0, gs_shares image s c.in_ok-cells-2.cells c.in_ok-gs_window.gs_window placed' gs k.1)) h)

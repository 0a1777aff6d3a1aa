use Rattle.std.proofs.Common.{◌≡◌, ◌+◌, suc, List, slice_index_or, slice_set, None, sym, ◌∙◌, ap, add-one}
use Rattle.flow_log.specs.declared.cause.Cause.TheVariants.{Bytes}
use Rattle.automaton_text.specs.declared.automaton.OpenMark.{OpenMark}
use Rattle.automaton_text.specs.Text.{without_row}
use Rattle.automaton_text.proofs.Orders.{cleared, cleared_more, cleared_whole}
use Rattle.automaton_text.proofs.versions.clear_rows.Goals as goal

pub loop-m-preserved : goal.loop-m-preserved
loop-m-preserved c =
    let none : OpenMark = record { at = 0; cause = Bytes; row = None } in
    let i = c.loop-m.m-index in
    ap (λ (ms : List OpenMark). slice_set ms i (without_row (slice_index_or ms i none))) c.loop-m.invariant
    ∙ cleared_more i c.args.marks.now none c.loop-m-test.true
    ∙ ap (λ n. cleared n c.args.marks.now) (sym (add-one i))

pub returns : goal.returns
returns c = c.loop-m.invariant ∙ cleared_whole c.loop-m.m-index c.args.marks.now c.loop-m-test.false

-- Each arm is one case of the expansion.
use Rattle.std.proofs.Common.{refl, sym, ◌∙◌}
use Rattle.domain_laws.specs.Made.{values_of}
use Rattle.flow_worklist.specs.declared.post.Post.{Post}
use Rattle.flow_worklist.proofs.Posting.{at_exit, import_named, with_call, with_code_ok}
use Rattle.flow_worklist.proofs.post.expanded.Goals as goal

pub returns-in-Exit : goal.returns-in-Exit
returns-in-Exit g c =
    at_exit (values_of g.D.Domain g.D.PartialEq.eq) c.args.image.now c.args.stubs.now c.args.k c.args.at c.args.s.now c.without_steps.result (sym c.in-Exit.ensures)
    c.without_steps.ensures.at (c.without_steps.ensures.expansion ∙ c.nothing.ensures)

pub expand_stub-requires-after_bounds : goal.expand_stub-requires-after_bounds
expand_stub-requires-after_bounds g c = λ κs within. import_named c.args.image.now c.args.at (sym c.in-Import.ensures)

pub import_label-requires : goal.import_label-requires
import_label-requires g c = import_named c.args.image.now c.args.at (sym c.in-Import.ensures)

pub returns-in_ok-import_label-in-Import : goal.returns-in_ok-import_label-in-Import
returns-in_ok-import_label-in-Import g c =
    let answer : Post g.row.D.Denot = record { at = c.args.at; expansion = c.in_ok-expand_stub-in-Import.field-0; label = c.in_ok-import_label-in-Import.field-0 } in
    with_call (values_of g.D.Domain g.D.PartialEq.eq) c.args.image.now c.args.stubs.now c.args.k c.args.at c.args.s.now answer (sym c.in-Import.ensures)
    refl c.in_ok-expand_stub-in-Import.ensures c.in_ok-import_label-in-Import.ensures

pub returns-in-Code : goal.returns-in-Code
returns-in-Code g c =
    with_code_ok (values_of g.D.Domain g.D.PartialEq.eq) c.args.image.now c.args.stubs.now c.args.k c.args.at c.args.s.now c.at_code.result (sym c.in-Code.ensures) c.at_code.ensures

-- The lists that pass the tests are those of a state that is well.
use Rattle.std.proofs.Common.{◌≡◌, true, Some, rules, sym, ap, ◌∙◌, subst}
use Rattle.domain_laws.specs.Made.{values_of}
use Rattle.partitioned_memory.specs.Held.{PartsHeld}
use Rattle.partitioned_memory.specs.Well.{IsWell}
use Rattle.abstract_state.specs.State.{IsWellState}
use Rattle.abstract_state.specs.Building.{parts_of, registers_of}
use Rattle.abstract_state.proofs.Building.{built-well, may-build}
use Rattle.abstract_state.proofs.state.State.build.Goals as goal

pub build-requires-after_bounds : goal.build-requires-after_bounds
build-requires-after_bounds g c = λ κs within.
    let d = values_of g.D.Domain g.D.PartialEq.eq in
    let passed : c.is_state.result ≡ true = search rules in
    let given : PartsHeld g.row.D.Denot = record { facts = c.as_slice-3.result.now; dirty = c.as_slice-4.result.now; blocks = c.as_slice-5.result.now } in
    let same : given ≡ parts_of c.args.plain.now = λ i. record { facts = c.as_slice-3.ensures i; dirty = c.as_slice-4.ensures i; blocks = c.as_slice-5.ensures i } in
    subst (IsWell d) (sym same) (may-build d c.args.image.now c.args.plain.now (sym c.is_state.ensures ∙ passed)).well

pub invariant_of-result : goal.invariant_of-result
invariant_of-result g c =
    let d = values_of g.D.Domain g.D.PartialEq.eq in
    let passed : c.is_state.result ≡ true = search rules in
    let noted : c.is_note.result ≡ true = search rules in
    let given : PartsHeld g.row.D.Denot = record { facts = c.as_slice-3.result.now; dirty = c.as_slice-4.result.now; blocks = c.as_slice-5.result.now } in
    let same : given ≡ parts_of c.args.plain.now = λ i. record { facts = c.as_slice-3.ensures i; dirty = c.as_slice-4.ensures i; blocks = c.as_slice-5.ensures i } in
    let parts : c.in_ok-parts.parts ≡ parts_of c.args.plain.now = c.in_ok-parts.ensures ∙ same in
    let registers : registers_of c.args.plain.now.regs ≡ Some c.in-Some.regs = ap registers_of (sym c.as_slice.ensures) ∙ sym c.in-Some.ensures in
    subst (λ (h : PartsHeld g.row.D.Denot). IsWellState d (record { regs = c.in-Some.regs; flags = c.in-Some-truths_of.flags; note = c.args.plain.now.note; parts = h })) (sym parts)
    (built-well d c.args.image.now c.args.plain.now c.in-Some.regs c.in-Some-truths_of.flags (sym c.is_state.ensures ∙ passed) registers (c.is_note.ensures.well noted))

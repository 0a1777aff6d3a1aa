use Rattle.std.proofs.Common.{◌≡◌, ◌∙◌, None, Some, ap, refl, sym}
use Rattle.import_semantics.specs.StubDoes.{after_call, bad_of, end_by, fault_of, stub_does}
use Rattle.x86_machine.specs.StepBy.{outcome_of_stub, stepped}
use Rattle.x86_machine.proofs.calls.call.Goals as goal

pub returns-in-Some : goal.returns-in-Some
unfolding stub_does
returns-in-Some c =
    let stub = c.args.stub.now in
    let choice = c.args.choice.now in
    let m = c.args.cells.now in
    (ap (λ f. outcome_of_stub (end_by f (bad_of stub choice m) (after_call stub choice m))) c.in-Some.ensures, refl)

pub returns-in-Some-bad_of : goal.returns-in-Some-bad_of
unfolding stub_does
returns-in-Some-bad_of c =
    let stub = c.args.stub.now in
    let choice = c.args.choice.now in
    let m = c.args.cells.now in
    let none : fault_of stub m ≡ None = sym c.fault_of.ensures ∙ c.in_default.is in
    let bad : bad_of stub choice m ≡ Some c.in-Some-bad_of.kind = sym c.bad_of.ensures ∙ c.in-Some-bad_of.is in (
      sym (ap (λ f. outcome_of_stub (end_by f (bad_of stub choice m) (after_call stub choice m))) none
          ∙ ap (λ b. outcome_of_stub (end_by None b (after_call stub choice m))) bad),
      refl,
    )

pub returns-in-Ok : goal.returns-in-Ok
unfolding stub_does
returns-in-Ok c =
    let stub = c.args.stub.now in
    let choice = c.args.choice.now in
    let m = c.args.cells.now in
    let none : fault_of stub m ≡ None = sym c.fault_of.ensures ∙ c.in_default.is in
    let good : bad_of stub choice m ≡ None = sym c.bad_of.ensures ∙ c.in_default-bad_of.is in
    ap stepped c.in-Ok.ensures
    ∙ sym (ap (λ f. outcome_of_stub (end_by f (bad_of stub choice m) (after_call stub choice m))) none
    ∙ ap (λ b. outcome_of_stub (end_by None b (after_call stub choice m))) good)

use Rattle.std.proofs.Common.{◌≡◌, subst, sym}
use Rattle.std.specs.Prelude.{IfOk}
use Rattle.domain_laws.specs.Made.{values_of}
use Rattle.x86_semantics.specs.declared.operation.Operation.{Operation}
use Rattle.x86_syntax.specs.Text.{next_address}
use Rattle.abstract_state.specs.Expanding.{Path, starts}
use Rattle.transfer_functions.specs.Arithmetic.{combine, carry, compare}
use Rattle.transfer_functions.specs.Post.{expand_operation}
use Rattle.transfer_functions.proofs.site.Site.expand_operation.Goals as goal

pub returns-in-Combine : goal.returns-in-Combine
returns-in-Combine g c =
    let d = values_of g.D.Domain g.D.PartialEq.eq in
    let image = c.args.self.now.image.now in
    let next = next_address c.args.self.now.at c.args.self.now.len in
    let P : Operation → Type 0 = λ o. IfOk c.combine.result (λ x. x ≡ expand_operation d image c.args.k o c.args.self.now.at c.args.self.now.len (starts c.args.s.now)) in
    let Q : Path g.row.D.Denot → Type 0 = λ q. IfOk c.combine.result (λ x. x ≡ combine d image c.in-Combine.op c.in-Combine.rule c.in-Combine.w c.in-Combine.to c.in-Combine.from next q) in
    subst P (sym c.in-Combine.is) (subst Q c.in_ok-p-in_default.ensures c.combine.ensures)

pub returns-in-Carry : goal.returns-in-Carry
returns-in-Carry g c =
    let d = values_of g.D.Domain g.D.PartialEq.eq in
    let image = c.args.self.now.image.now in
    let next = next_address c.args.self.now.at c.args.self.now.len in
    let P : Operation → Type 0 = λ o. IfOk c.carry.result (λ x. x ≡ expand_operation d image c.args.k o c.args.self.now.at c.args.self.now.len (starts c.args.s.now)) in
    let Q : Path g.row.D.Denot → Type 0 = λ q. IfOk c.carry.result (λ x. x ≡ carry d image c.in-Carry.op c.in-Carry.rule c.in-Carry.w c.in-Carry.to c.in-Carry.from next q) in
    subst P (sym c.in-Carry.is) (subst Q c.in_ok-p-in_default.ensures c.carry.ensures)

pub returns-in-Compare : goal.returns-in-Compare
returns-in-Compare g c =
    let d = values_of g.D.Domain g.D.PartialEq.eq in
    let image = c.args.self.now.image.now in
    let next = next_address c.args.self.now.at c.args.self.now.len in
    let P : Operation → Type 0 = λ o. IfOk c.compare.result (λ x. x ≡ expand_operation d image c.args.k o c.args.self.now.at c.args.self.now.len (starts c.args.s.now)) in
    let Q : Path g.row.D.Denot → Type 0 = λ q. IfOk c.compare.result (λ x. x ≡ compare d image c.in-Compare.op c.in-Compare.rule c.in-Compare.w c.in-Compare.left c.in-Compare.right next q) in
    subst P (sym c.in-Compare.is) (subst Q c.in_ok-p-in_default.ensures c.compare.ensures)

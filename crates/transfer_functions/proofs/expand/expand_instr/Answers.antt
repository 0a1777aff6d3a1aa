use Rattle.std.proofs.Common.{◌≡◌, true, subst, sym}
use Rattle.x86_semantics.specs.declared.operation.Operation.{Operation}
use Rattle.x86_semantics.specs.Widths.{has_own_widths}
use Rattle.x86_semantics.proofs.Spelled.{spelled_widths}
use Rattle.transfer_functions.proofs.expand.expand_instr.Goals as goal

pub expand_operation-requires-after_bounds : goal.expand_operation-requires-after_bounds
expand_operation-requires-after_bounds g c κs within =
    subst (λ (o : Operation). has_own_widths o ≡ true) (sym c.operation_of.ensures) (spelled_widths c.args.i.now)

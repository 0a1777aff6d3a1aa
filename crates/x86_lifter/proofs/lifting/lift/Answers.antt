use Rattle.std.proofs.Common.{◌≡◌, ap, ◌∙◌, List}
use Rattle.x86_semantics.specs.Operations.{operation_of}
use Rattle.statement_lang.specs.declared.stmt.Stmt.{Stmt}
use Rattle.statement_lang.specs.Run.{run}
use Rattle.x86_lifter.specs.Lifted.{lifted}
use Rattle.x86_lifter.proofs.Whole.{lifted-means}
use Rattle.x86_lifter.proofs.lifting.lift.Goals as goal

pub returns : goal.returns
returns c = λ choice m is.
    let e : c.lift_operation.result.items ≡ lifted (operation_of c.args.i.now) c.args.at c.args.len = cc in
    ap (λ (list : List Stmt). run list choice m) e ∙ lifted-means c.args.i.now c.args.len c.args.at choice m is

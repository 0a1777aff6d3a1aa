-- The operands of every instruction's operation have the operation's widths.
use Rattle.std.proofs.Common.{◌≡◌, Bool, true, false, cond, refl}
use Rattle.x86_syntax.specs.declared.instr.Instr.{Instr}
use Rattle.x86_semantics.specs.declared.operation.Operation.{Operation}
use Rattle.x86_semantics.specs.Widths.{has_own_widths}
use Rattle.x86_semantics.specs.Operations.{operation_of, operation_with, unlisted}

by_test : (op : Operation) (b : Bool) → has_own_widths op ≡ b → has_own_widths (cond b op unlisted) ≡ true
unfolding has_own_widths
by_test op true e = e
by_test op false e = refl

pub spelled_widths : (i : Instr) → has_own_widths (operation_of i) ≡ true
unfolding operation_of
spelled_widths i = by_test (operation_with i.name i i.ops.items) (has_own_widths (operation_with i.name i i.ops.items)) refl

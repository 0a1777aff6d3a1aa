-- Where a jump or a call goes whose target cannot be read.
use Rattle.std.proofs.Common.{◌≡◌, ℕ, Option, Some, None, ap}
use Rattle.domain_laws.specs.Laws.{Values}
use Rattle.memory_map.specs.Image.{Image}
use Rattle.x86_syntax.specs.declared.instr.Operand.{Operand}
use Rattle.x86_syntax.specs.declared.instr.Operand.TheVariants.{Memory, Number, Offset, Register}
use Rattle.abstract_state.specs.Accessing.{after_load}
use Rattle.abstract_state.specs.Expanding.{Expanded, Path, ended}
use Rattle.transfer_functions.specs.Flow.{targeting}
use Rattle.transfer_functions.specs.Values.{operand_value}

module _ {D : Type 0} (d : Values D) (image : Image) where
  pub unread-target : (p : Path D) (target : Operand) (at n : ℕ) (k : Option ℕ → Expanded D) → operand_value d image target p.state ≡ None
      → targeting d image p target at n k ≡ ended p.writes
  unread-target p (Register w r) at n k none = cc
  unread-target p (Number w m) at n k none = cc
  unread-target p (Memory w a) at n k none = ap (λ o. after_load d image p.writes o (λ v. k (d.number_of v))) none
  unread-target p (Offset o) at n k none = cc

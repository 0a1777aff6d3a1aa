use Rattle.std.proofs.Common.{refl}
use mathlib.Core.Bool.{xor}
use Rattle.statement_lang.proofs.rules.differ.Goals as goal

pub returns : goal.returns
unfolding xor
returns c = refl

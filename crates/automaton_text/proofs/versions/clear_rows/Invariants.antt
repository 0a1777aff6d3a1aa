use Rattle.std.proofs.Common.{◌≡◌}
use Rattle.automaton_text.proofs.Orders.{cleared}
use Rattle.automaton_text.proofs.versions.clear_rows.Given as goal

abbrev pub invariant-loop-m : goal.invariant-loop-m
invariant-loop-m l = l.marks ≡ cleared l.m-index l.initial.marks

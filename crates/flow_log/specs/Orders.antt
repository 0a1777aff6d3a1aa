-- The orders of edges and marks in every text.
use Rattle.std.specs.Prelude.{ℕ}
use Rattle.std.specs.declared.cmp.Ordering.{Ordering}
use Rattle.std.specs.declared.cmp.Ordering.TheVariants.{Less, Greater}
use Rattle.std.specs.Ordering.{nat_cmp, ordering_then}
use Rattle.std.specs.Cmp.Lexicographic.{slice_cmp}
use Rattle.flow_log.specs.declared.edge.Edge.{Edge}
use Rattle.flow_log.specs.declared.edge.Label.{Label}
use Rattle.flow_log.specs.declared.edge.Label.TheVariants.{Code, Import}
use Rattle.flow_log.specs.declared.cause.Cause.{Cause}
use Rattle.flow_log.specs.declared.cause.Cause.TheVariants as causes

-- code before imports, and each by its bytes
abbrev pub label_cmp : Label → Label → Ordering
label_cmp (Code a) (Code b) = slice_cmp nat_cmp a.items b.items
label_cmp (Code a) (Import b) = Less
label_cmp (Import a) (Code b) = Greater
label_cmp (Import a) (Import b) = slice_cmp nat_cmp a b

-- by the address before, the address after, and the label
abbrev pub edge_cmp : Edge → Edge → Ordering
edge_cmp a b = ordering_then (nat_cmp a.from b.from) (ordering_then (nat_cmp a.to b.to) (label_cmp a.label b.label))

-- the place of a cause in the table of causes
abbrev pub cause_rank : Cause → ℕ
cause_rank causes.Bytes = 0
cause_rank causes.NoStub = 1
cause_rank causes.Target = 2
cause_rank causes.Store = 3
cause_rank causes.Stack = 4
cause_rank causes.Block = 5
cause_rank causes.Code = 6
cause_rank causes.Budget = 7

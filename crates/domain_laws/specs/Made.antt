-- The functions of the domain at a bound. A file of generic code imports this; the trait's own file cannot.
use Rattle.std.specs.Prelude.{Bool}
use Rattle.domain_laws.specs.declared.domain.Domain.{Ghosts}
use Rattle.domain_laws.specs.Laws.{Values}

abbrev pub values_of : {D : Type 0} → Ghosts D → (D → D → Bool) → Values D
values_of g eq = record {
  stands = g.stands;
  number = g.number;
  place = g.place;
  inside = g.inside;
  any = g.any;
  eval = g.eval;
  number_of = g.number_of;
  reach = g.reach;
  up_to = g.up_to;
  leq = g.leq;
  rank = g.rank;
  raise = g.raise;
  eq = eq;
}

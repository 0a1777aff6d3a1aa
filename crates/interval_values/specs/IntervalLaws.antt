-- Intervals keep every law of a domain.
use Rattle.std.proofs.Common.{◌≡◌, ℕ, ℤ, pos, ◌-ℤ◌, ◌≤ℤ◌, ◌+ℤ◌, refl, sym, ap, ◌∙◌, subst, arith, Option, Some, None, IfSome}
use Rattle.std.proofs.lemmas.Int.{ints}
use Rattle.std.proofs.lemmas.Bool.{cond_both}
use Rattle.bit_words.specs.declared.op.Op.{Op}
use Rattle.bit_words.specs.declared.width.Width.{Width}
use Rattle.address_regions.specs.declared.region.Region.{Region}
use Rattle.address_regions.specs.declared.region.Region.TheVariants.{Stack, Fs, Gs, Block}
use Rattle.address_regions.specs.Extents.{has_room, low_of, high_of, block_of}
use Rattle.address_regions.specs.Places.{Places, HasBase, place_at}
use Rattle.domain_laws.specs.declared.rules.Settled.{Settled}
use Rattle.domain_laws.specs.declared.rules.Settled.TheVariants.{Number, First, Second}
use Rattle.domain_laws.specs.Laws.{Values, IsLawful, IsValueOf}
use Rattle.domain_laws.specs.Reached.{named}
use Rattle.domain_laws.specs.Rules.{settled, or_settled}
use Rattle.domain_laws.specs.RuleLaws.{Tells, settled-tells}
use Rattle.domain_laws.specs.SharedLaws.{shared-stands, shared-names}
use Rattle.interval_values.specs.declared.value.Interval.{Interval}
use Rattle.interval_values.specs.declared.value.Interval.TheVariants.{Any}
use Rattle.interval_values.specs.Forms.{distance}
use Rattle.interval_values.specs.Spans.{place_span, interval_number, interval_place, interval_inside}
use Rattle.interval_values.specs.Stands.{interval_stands, interval_number_of, interval_reach, interval_up_to}
use Rattle.interval_values.specs.Order.{interval_leq, interval_rank, interval_raise}
use Rattle.interval_values.specs.Rules.{by_intervals, interval_eval}
use Rattle.interval_values.specs.SpanLaws.{distance-is}
use Rattle.interval_values.specs.MemberLaws.{span-holds, place_span-holds, allows, known, alone, span-number, reached, proper, moved, span-named, place_span-named, cut_holds, cut_named, cut_number}
use Rattle.interval_values.specs.OrderLaws.{below, below-refl, below-trans, same-is, same-refl}
use Rattle.interval_values.specs.RankLaws.{raised, lower, zero_rank, raise-named, raise-number}
use Rattle.interval_values.specs.RuleLaws.{by_intervals-stands}
use Rattle.interval_values.specs.NameLaws.{by_intervals-good}
use Rattle.interval_values.specs.contracts.value.IntervalPartialEq.TheImpl as equality

number_stood : (n : ℕ) (p : Places) → interval_stands (interval_number n) p n
number_stood n p = span-holds p n n 0 0 n (omega arith) (omega arith)

place_stood : (r : Region) (o : ℤ) (b : ℕ) (p : Places) → HasBase p r b → interval_stands (interval_place r o) p (place_at b o)
place_stood r o b p h = place_span-holds p r o o 0 0 b o (place_at b o) h (omega (arith, ints)) (omega (arith, ints)) refl

inside_stood : (r : Region) (o : ℤ) (b : ℕ) (p : Places) → HasBase p r b → low_of r ≤ℤ o → o ≤ℤ (high_of r -ℤ pos 4) → interval_stands (interval_inside r) p (place_at b o)
inside_stood r o b p h l k =
    cond_both (has_room r) (place_span r (low_of r) (high_of r -ℤ pos 4) 1) Any (λ v. interval_stands v p (place_at b o))
    (λ t. place_span-holds p r (low_of r) (high_of r -ℤ pos 4) 1 (distance (low_of r) o) b o (place_at b o) h (distance-is (low_of r) o l ∙ ap (λ u. low_of r +ℤ pos u) (omega arith)) k refl)
    (λ t. tt)

block-is : (r s : Region) → block_of r ≡ Some s → s ≡ r
block-is Stack s e = absurd (cc)
block-is Fs s e = absurd (cc)
block-is Gs s e = absurd (cc)
block-is (Block site size zeroed) s e = cc

inside_named : (r s : Region) → named (interval_reach (interval_inside r)) ≡ Some s → s ≡ r
inside_named r s =
    cond_both (has_room r) (place_span r (low_of r) (high_of r -ℤ pos 4) 1) Any (λ v. named (interval_reach v) ≡ Some s → s ≡ r)
    (λ t e. block-is r s (place_span-named r (low_of r) (high_of r -ℤ pos 4) 1 s e))
    (λ t e. absurd (cc))

-- a number that is told of a result is one of the operator
told : (op : Op) (w : Width) (a b rest : Interval) (n : ℕ) (o : Option Settled) → IfSome o (Tells op w (interval_number_of a) (interval_number_of b)) → (interval_number_of rest ≡ Some n → o ≡ None → IsValueOf op w n) → interval_number_of (or_settled interval_number a b o rest) ≡ Some n → IsValueOf op w n
told op w a b rest n (Some (Number k)) t g e = let (one, is) = span-number k k 0 n e in subst (λ j. IsValueOf op w j) (sym is) t
told op w a b rest n (Some First) t g e = absurd (cc)
told op w a b rest n (Some Second) t g e = absurd (cc)
told op w a b rest n None t g e = g e refl

abbrev pub interval : Values Interval
interval = record { stands = interval_stands; number = interval_number; place = interval_place; inside = interval_inside; any = Any; eval = interval_eval; number_of = interval_number_of; reach = interval_reach; up_to = interval_up_to; leq = interval_leq; rank = interval_rank; raise = interval_raise; eq = equality.ghosts.eq }

pub interval-lawful : IsLawful interval
interval-lawful = record {
  number_stands = λ n p v. number_stood n p;
  place_stands = λ r o b p v h. place_stood r o b p h;
  inside_stands = λ r o b p v h l k. inside_stood r o b p h l k;
  any_stands = λ p x v. tt;
  eval_stands = λ op w a b p x y v i j g h. shared-stands interval_number a b (by_intervals op w a b p.align) (λ d n. interval_stands d p n) op w (interval_number_of a) (interval_number_of b) x y (λ n. number_stood n p) (allows a p x g) (allows b p y h) i j g h (by_intervals-stands p op w a b x y v i j g h);
  number_of_stands = λ v n p q e. known v n p e;
  number_of_alone = λ v n p x q e h. alone v n p x e h;
  reach_holds = λ v p x q h. reached v p x h;
  reach_proper = proper;
  up_to_stands = λ v c p x q l h. cut_holds v c p x l h;
  leq_stands = λ a b p x q e h. below a b p x e h;
  leq_refl = below-refl;
  leq_trans = below-trans;
  eq_is = same-is;
  eq_refl = same-refl;
  rank_zero = λ v p x q e. zero_rank v p x e;
  raise_leq = raised;
  raise_rank = lower;
  moves = λ v p q x i j s k h. moved v p q x s k h;
  number_names = λ n. span-named n n 0;
  place_names = λ r o s e. block-is r s (place_span-named r o o 0 s e);
  inside_names = inside_named;
  any_names = refl;
  eval_names = λ op w a b align s e. shared-names interval_number a b (by_intervals op w a b align) (λ v. named (interval_reach v)) (settled op w (interval_number_of a) (interval_number_of b)) s (λ n. span-named n n 0) ((by_intervals-good op w a b align s 0).0) e;
  up_to_names = cut_named;
  raise_names = raise-named;
  eval_number = λ op w a b align n e. told op w a b (by_intervals op w a b align) n (settled op w (interval_number_of a) (interval_number_of b)) (settled-tells op w (interval_number_of a) (interval_number_of b)) ((by_intervals-good op w a b align Stack n).1) e;
  up_to_number = cut_number;
  raise_number = raise-number;
}

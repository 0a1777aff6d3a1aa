-- The plainest domain keeps every law.
use Rattle.std.proofs.Common.{◌≡◌, ℕ, true, refl, arith, Some, None, inl}
use Rattle.std.proofs.lemmas.Bool.Decides.{nat_tests}
use Rattle.std.proofs.lemmas.Grind.{common_steps}
use Rattle.address_regions.specs.Places.{Places}
use Rattle.domain_laws.specs.declared.flat.FlatNumbers.{FlatNumbers}
use Rattle.domain_laws.specs.declared.flat.FlatNumbers.TheVariants.{Number, Any}
use Rattle.domain_laws.specs.Laws.{Values, IsLawful}
use Rattle.domain_laws.specs.Reached.{IsReached, IsProper, named}
use Rattle.domain_laws.specs.Flat.{flat_eval, flat_leq, flat_number_of, flat_raise, flat_rank, flat_reach, flat_stands}
use Rattle.domain_laws.specs.RuleLaws.{Allows}
use Rattle.domain_laws.specs.SharedLaws.{shared-stands, shared-number}
use Rattle.domain_laws.specs.contracts.flat.FlatNumbersPartialEq.TheImpl as equality

abbrev pub flat : Values FlatNumbers
flat = record { stands = flat_stands; number = Number; place = λ r o. Any; inside = λ r. Any; any = Any; eval = flat_eval; number_of = flat_number_of; reach = flat_reach; up_to = λ v c. v; leq = flat_leq; rank = flat_rank; raise = flat_raise; eq = equality.ghosts.eq }

allows : (v : FlatNumbers) (p : Places) (x : ℕ) → flat_stands v p x → Allows (flat_number_of v) x
allows (Number n) p x h = h
allows Any p x h = tt

no_name : (v : FlatNumbers) → named (flat_reach v) ≡ None
no_name (Number n) = refl
no_name Any = refl

reached : (v : FlatNumbers) (p : Places) (x : ℕ) → flat_stands v p x → IsReached (flat_reach v) p x
reached (Number n) p x h = (omega arith, omega arith)
reached Any p x h = tt

proper : (v : FlatNumbers) → IsProper (flat_reach v)
proper (Number n) = omega arith
proper Any = tt

known : (v : FlatNumbers) (n : ℕ) (p : Places) → flat_number_of v ≡ Some n → flat_stands v p n
known (Number m) n p e = cc
known Any n p e = tt

alone : (v : FlatNumbers) (n : ℕ) (p : Places) (x : ℕ) → flat_number_of v ≡ Some n → flat_stands v p x → x ≡ n
alone (Number m) n p x e h = cc
alone Any n p x e h = absurd (cc)

below : (a b : FlatNumbers) (p : Places) (x : ℕ) → flat_leq a b ≡ true → flat_stands a p x → flat_stands b p x
below a Any p x e h = tt
below (Number m) (Number n) p x e h = grind (arith, nat_tests)
below Any (Number n) p x e h = absurd (cc)

below-refl : (a : FlatNumbers) → flat_leq a a ≡ true
below-refl (Number n) = grind (arith, nat_tests)
below-refl Any = refl

below-trans : (a b c : FlatNumbers) → flat_leq a b ≡ true → flat_leq b c ≡ true → flat_leq a c ≡ true
below-trans a b Any e f = refl
below-trans (Number l) (Number m) (Number n) e f = grind (arith, nat_tests)
below-trans Any (Number m) (Number n) e f = absurd (cc)
below-trans a Any (Number n) e f = absurd (cc)

same-is : (a b : FlatNumbers) → equality.ghosts.eq a b ≡ true → a ≡ b
same-is (Number m) (Number n) e = grind (arith, nat_tests, common_steps)
same-is Any Any e = refl
same-is a b e = absurd (cc)

same-refl : (a : FlatNumbers) → equality.ghosts.eq a a ≡ true
same-refl (Number n) = grind (arith, nat_tests, common_steps)
same-refl Any = refl

zero_rank : (v : FlatNumbers) (p : Places) (x : ℕ) → flat_rank v ≡ 0 → flat_stands v p x
zero_rank (Number n) p x e = absurd (omega arith)
zero_rank Any p x e = tt

moved : (v : FlatNumbers) (p q : Places) (x : ℕ) → flat_stands v p x → flat_stands v q x
moved (Number n) p q x h = h
moved Any p q x h = tt

pub flat-lawful : IsLawful flat
flat-lawful = record {
  number_stands = λ n p v. refl;
  place_stands = λ r o b p v h. tt;
  inside_stands = λ r o b p v h l k. tt;
  any_stands = λ p x v. tt;
  eval_stands = λ op w a b p x y v i j g h. shared-stands Number a b Any (λ d n. flat_stands d p n) op w (flat_number_of a) (flat_number_of b) x y (λ n. refl) (allows a p x g) (allows b p y h) i j g h tt;
  number_of_stands = λ v n p q e. known v n p e;
  number_of_alone = λ v n p x q e h. alone v n p x e h;
  reach_holds = λ v p x q h. reached v p x h;
  reach_proper = proper;
  up_to_stands = λ v c p x q l h. h;
  leq_stands = λ a b p x q e h. below a b p x e h;
  leq_refl = below-refl;
  leq_trans = below-trans;
  eq_is = same-is;
  eq_refl = same-refl;
  rank_zero = λ v p x q e. zero_rank v p x e;
  raise_leq = λ v h. refl;
  raise_rank = λ v h. h;
  moves = λ v p q x i j s k h. moved v p q x h;
  number_names = λ n. refl;
  place_names = λ r o s e. absurd (cc);
  inside_names = λ r s e. absurd (cc);
  any_names = refl;
  eval_names = λ op w a b align s e. let f = no_name (flat_eval op w a b align) in absurd (cc);
  up_to_names = λ v c s e. e;
  raise_names = λ v s e. absurd (cc);
  eval_number = λ op w a b align n e. shared-number Number a b Any flat_number_of op w n (λ k. refl) (λ f. absurd (cc)) e;
  up_to_number = λ v c n e. inl e;
  raise_number = λ v. refl;
}

-- Values that stand for what registers and operands hold.
use Rattle.std.proofs.Common.{◌≡◌, ℕ, ◌<◌, ◌^◌, Bool, true, false, not, ◌==◌, cond, Option, Some, None, refl, sym, subst}
use Rattle.address_regions.specs.Places.{Places, IsValid}
use Rattle.bit_words.specs.declared.op.Op.{Op}
use Rattle.bit_words.specs.declared.width.Width.{Width}
use Rattle.bit_words.specs.declared.width.Width.TheVariants.{B32}
use Rattle.bit_words.specs.Width.{bits_of}
use Rattle.bit_words.specs.Operators.{apply_op}
use Rattle.bit_words.proofs.Laws.{apply-lt}
use Rattle.domain_laws.specs.Laws.{Values, IsLawful}
use Rattle.memory_map.specs.Registers.{register, with_register}
use Rattle.abstract_state.specs.declared.truth.Truth.{Truth}
use Rattle.abstract_state.specs.declared.truth.Truth.TheVariants.{Yes, No, Unknown}
use Rattle.memory_map.specs.declared.registers.Regs.{Regs}
use Rattle.abstract_state.specs.Truth.{StandsFor, truth_of, truth_of_number}
use Rattle.abstract_state.proofs.Logic.{truth_of_stands}
use Rattle.transfer_functions.specs.Flags.{by_operator, known_of, known_of_all}

-- a value stands for a word of a width
pub record KnownWord {D : Type 0} (d : Values D) (p : Places) (w : Width) (v : D) (x : ℕ) : Type 0 where
  pub stands : d.stands v p x
  pub fits : x < 2 ^ bits_of w

-- each register is known
pub record AllKnown {D : Type 0} (d : Values D) (p : Places) (g : Regs D) (m : Regs ℕ) : Type 0 where
  pub eax : KnownWord d p B32 g.eax m.eax
  pub ecx : KnownWord d p B32 g.ecx m.ecx
  pub edx : KnownWord d p B32 g.edx m.edx
  pub ebx : KnownWord d p B32 g.ebx m.ebx
  pub esp : KnownWord d p B32 g.esp m.esp
  pub ebp : KnownWord d p B32 g.ebp m.ebp
  pub esi : KnownWord d p B32 g.esi m.esi
  pub edi : KnownWord d p B32 g.edi m.edi

module _ {D : Type 0} (d : Values D) (p : Places) where
  either_known : (b : Bool) (v u : D) (x y : ℕ) → KnownWord d p B32 v x → KnownWord d p B32 u y → KnownWord d p B32 (cond b v u) (cond b x y)
  either_known true v u x y h k = h
  either_known false v u x y h k = k

  pub register_known : (g : Regs D) (m : Regs ℕ) (r : ℕ) → AllKnown d p g m → KnownWord d p B32 (register g r) (register m r)
  unfolding register
  register_known g m r h =
      either_known (r == 0) _ _ _ _ h.eax (either_known (r == 1) _ _ _ _ h.ecx (either_known (r == 2) _ _ _ _ h.edx (either_known (r == 3) _ _ _ _ h.ebx
      (either_known (r == 4) _ _ _ _ h.esp (either_known (r == 5) _ _ _ _ h.ebp (either_known (r == 6) _ _ _ _ h.esi h.edi))))))

  pub with_register_known : (g : Regs D) (m : Regs ℕ) (r : ℕ) (v : D) (x : ℕ) → AllKnown d p g m → KnownWord d p B32 v x
      → AllKnown d p (with_register g r v) (with_register m r x)
  unfolding with_register
  with_register_known g m r v x h k = record {
    eax = either_known (r == 0) _ _ _ _ k h.eax;
    ecx = either_known (r == 1) _ _ _ _ k h.ecx;
    edx = either_known (r == 2) _ _ _ _ k h.edx;
    ebx = either_known (r == 3) _ _ _ _ k h.ebx;
    esp = either_known (r == 4) _ _ _ _ k h.esp;
    ebp = either_known (r == 5) _ _ _ _ k h.ebp;
    esi = either_known (r == 6) _ _ _ _ k h.esi;
    edi = either_known (r == 7) _ _ _ _ k h.edi;
  }

module _ {D : Type 0} (d : Values D) (l : IsLawful d) (p : Places) (valid : IsValid p) where
  pub number_known : (w : Width) (n : ℕ) → n < 2 ^ bits_of w → KnownWord d p w (d.number n) n
  number_known w n less = record { stands = l.number_stands n p valid; fits = less }

  pub any_known : (w : Width) (x : ℕ) → x < 2 ^ bits_of w → KnownWord d p w d.any x
  any_known w x less = record { stands = l.any_stands p x valid; fits = less }

  -- an operator at values stands for the operator's result, which fits the width
  pub eval_known : (op : Op) (w : Width) (v u : D) (x y : ℕ) → KnownWord d p w v x → KnownWord d p w u y → KnownWord d p w (d.eval op w v u p.align) (apply_op op w x y)
  eval_known op w v u x y h k = record { stands = l.eval_stands op w v u p x y valid h.fits k.fits h.stands k.stands; fits = apply-lt op w x y }

  -- ---- a test of a number, where it is known

  known_at : (test : ℕ → Bool) (v : D) (x : ℕ) (o : Option ℕ) → d.number_of v ≡ o → d.stands v p x → StandsFor (known_of test o) (test x)
  known_at test v x None is h = tt
  known_at test v x (Some n) is h =
      let P : ℕ → Type 0 = λ z. StandsFor (truth_of (test n)) (test z) in
      subst P (sym (l.number_of_alone v n p x valid is h)) (truth_of_stands (test n))

  pub known_stands : (test : ℕ → Bool) (v : D) (x : ℕ) → d.stands v p x → StandsFor (known_of test (d.number_of v)) (test x)
  known_stands test v x h = known_at test v x (d.number_of v) refl h

  -- ---- a test of two operands and a carry

  -- a number is known to be x, where it is known
  abbrev pub Tells : Option ℕ → ℕ → Type 0
  Tells o x = (n : ℕ) → o ≡ Some n → x ≡ n

  pub number_tells : (v : D) (x : ℕ) → d.stands v p x → Tells (d.number_of v) x
  number_tells v x h n is = l.number_of_alone v n p x valid is h

  pub given_tells : (x : ℕ) → Tells (Some x) x
  given_tells x n is = cc

  with_carry : (test : ℕ → ℕ → Bool → Bool) (m n : ℕ) (t : Truth) (c : Bool) → StandsFor t c → StandsFor (known_of_all test (Some m) (Some n) t) (test m n c)
  with_carry test m n Yes c h = let P : Bool → Type 0 = λ b. StandsFor (truth_of (test m n true)) (test m n b) in subst P (sym h) (truth_of_stands (test m n true))
  with_carry test m n No c h = let P : Bool → Type 0 = λ b. StandsFor (truth_of (test m n false)) (test m n b) in subst P (sym h) (truth_of_stands (test m n false))
  with_carry test m n Unknown c h = tt

  pub all_stand : (test : ℕ → ℕ → Bool → Bool) (a b : Option ℕ) (t : Truth) (x y : ℕ) (c : Bool) → Tells a x → Tells b y → StandsFor t c
      → StandsFor (known_of_all test a b t) (test x y c)
  all_stand test None b t x y c h k s = tt
  all_stand test (Some m) None t x y c h k s = tt
  all_stand test (Some m) (Some n) t x y c h k s =
      let P : ℕ → Type 0 = λ z. StandsFor (known_of_all test (Some m) (Some n) t) (test z y c) in
      let Q : ℕ → Type 0 = λ z. StandsFor (known_of_all test (Some m) (Some n) t) (test m z c) in
      subst P (sym (h m refl)) (subst Q (sym (k n refl)) (with_carry test m n t c s))

  -- ---- a test by an operator

  number_at : (v : D) (x : ℕ) (o : Option ℕ) → d.number_of v ≡ o → d.stands v p x → StandsFor (truth_of_number o) (not (x == 0))
  number_at v x None is h = tt
  number_at v x (Some n) is h =
      let P : ℕ → Type 0 = λ z. StandsFor (truth_of (not (n == 0))) (not (z == 0)) in
      subst P (sym (l.number_of_alone v n p x valid is h)) (truth_of_stands (not (n == 0)))

  -- whether a value is not 0
  pub number_stands : (v : D) (x : ℕ) → d.stands v p x → StandsFor (truth_of_number (d.number_of v)) (not (x == 0))
  number_stands v x h = number_at v x (d.number_of v) refl h

  pub operator_stands : (op : Op) (w : Width) (v u : D) (x y : ℕ) → KnownWord d p w v x → KnownWord d p w u y → StandsFor (by_operator d p.align op w v u) (not (apply_op op w x y == 0))
  operator_stands op w v u x y h k = number_stands _ _ (eval_known op w v u x y h k).stands

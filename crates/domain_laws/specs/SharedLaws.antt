-- What the shared rules give each domain: their result stands for the operator's value, names no further block, and tells only a number of the operator.
use Rattle.std.proofs.Common.{◌≡◌, ℕ, ◌^◌, ◌<◌, subst, Option, Some, None, IfSome, ◌⊎◌, inl, inr}
use Rattle.bit_words.specs.declared.width.Width.{Width}
use Rattle.bit_words.specs.declared.op.Op.{Op}
use Rattle.bit_words.specs.Width.{bits_of}
use Rattle.bit_words.specs.Operators.{apply_op}
use Rattle.address_regions.specs.declared.region.Region.{Region}
use Rattle.domain_laws.specs.declared.rules.Settled.{Settled}
use Rattle.domain_laws.specs.declared.rules.Settled.TheVariants.{Number, First, Second}
use Rattle.domain_laws.specs.Laws.{IsValueOf}
use Rattle.domain_laws.specs.Rules.{settled, or_settled}
use Rattle.domain_laws.specs.RuleLaws.{Allows, Right, Tells, settled-right, settled-tells}

module _ {D : Type 0} (number : ℕ → D) (a b rest : D) where
  -- ---- for which numbers the result stands
  stood : (St : D → ℕ → Type 0) (op : Op) (w : Width) (x y : ℕ) (o : Option Settled) → ((n : ℕ) → St (number n) n) → St a x → St b y → St rest (apply_op op w x y) → IfSome o (Right op w x y) → St (or_settled number a b o rest) (apply_op op w x y)
  stood St op w x y (Some (Number n)) f g h r e = subst (λ k. St (number n) k) e (f n)
  stood St op w x y (Some First) f g h r e = subst (λ k. St a k) e g
  stood St op w x y (Some Second) f g h r e = subst (λ k. St b k) e h
  stood St op w x y None f g h r e = r

  pub shared-stands : (St : D → ℕ → Type 0) (op : Op) (w : Width) (na nb : Option ℕ) (x y : ℕ) → ((n : ℕ) → St (number n) n) → Allows na x → Allows nb y → x < 2 ^ bits_of w → y < 2 ^ bits_of w → St a x → St b y → St rest (apply_op op w x y) → St (or_settled number a b (settled op w na nb) rest) (apply_op op w x y)
  shared-stands St op w na nb x y f p q i j g h r =
      stood St op w x y (settled op w na nb) f g h r (settled-right op w na nb x y p q i j)

  -- ---- which block region the result names
  pub shared-names : (Nm : D → Option Region) (o : Option Settled) (s : Region) → ((n : ℕ) → Nm (number n) ≡ None) → (Nm rest ≡ Some s → (Nm a ≡ Some s) ⊎ (Nm b ≡ Some s)) → Nm (or_settled number a b o rest) ≡ Some s → (Nm a ≡ Some s) ⊎ (Nm b ≡ Some s)
  shared-names Nm (Some (Number n)) s f g e = let h = f n in absurd (cc)
  shared-names Nm (Some First) s f g e = inl e
  shared-names Nm (Some Second) s f g e = inr e
  shared-names Nm None s f g e = g e

  -- ---- which number the result tells
  told : (of : D → Option ℕ) (op : Op) (w : Width) (n : ℕ) (o : Option Settled) → ((k : ℕ) → of (number k) ≡ Some k) → (of rest ≡ Some n → IsValueOf op w n) → IfSome o (Tells op w (of a) (of b)) → of (or_settled number a b o rest) ≡ Some n → IsValueOf op w n
  told of op w n (Some (Number k)) f g t e = let h = f k in let same : k ≡ n = cc in subst (λ j. IsValueOf op w j) same t
  told of op w n (Some First) f g t e = absurd (cc)
  told of op w n (Some Second) f g t e = absurd (cc)
  told of op w n None f g t e = g e

  pub shared-number : (of : D → Option ℕ) (op : Op) (w : Width) (n : ℕ) → ((k : ℕ) → of (number k) ≡ Some k) → (of rest ≡ Some n → IsValueOf op w n) → of (or_settled number a b (settled op w (of a) (of b)) rest) ≡ Some n → IsValueOf op w n
  shared-number of op w n f g e = told of op w n (settled op w (of a) (of b)) f g (settled-tells op w (of a) (of b)) e

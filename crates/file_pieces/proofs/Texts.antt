-- The text that ends at the first 0, and names of bounded length.
use Rattle.std.proofs.Common.{ℕ, zero, suc, ◌≡◌, ◌≢◌, ◌<◌, ◌≤◌, Bool, true, false, cond, List, [], ◌∷◌, length, take, get_or, Option, Some, None, refl, sym, ap, ◌∙◌, arith, inl, inr, ◌⊎◌, min, subst}
use Rattle.std.specs.Prelude.{◌&&◌, nat_le, IfSome, ◌==◌}
use Rattle.std.specs.Option.{option_map}
use Rattle.std.specs.List.{list_all}
use Rattle.std.proofs.lemmas.Bool.{leb-true, leb-false, ne_eqb, and_parts}
use Rattle.memory_map.specs.Name.{is_name, is_name_byte}
use Rattle.memory_map.specs.Range.{Range}
use Rattle.file_pieces.specs.Found.{text_of, name_of, name_from, rest_at}

pub text_of-end : (b : ℕ) (bytes : List ℕ) → (b == 0) ≡ true → text_of (b ∷ bytes) ≡ Some []
unfolding text_of
text_of-end b bytes h = ap (λ t. cond t (Some []) (option_map (λ text. b ∷ text) (text_of bytes))) h

pub text_of-next : (b : ℕ) (bytes : List ℕ) → (b == 0) ≡ false → text_of (b ∷ bytes) ≡ option_map (λ text. b ∷ text) (text_of bytes)
unfolding text_of
text_of-next b bytes h = ap (λ t. cond t (Some []) (option_map (λ text. b ∷ text) (text_of bytes))) h

pub text_of-nil : text_of [] ≡ None
unfolding text_of
text_of-nil = refl

pub not_zero : (b : ℕ) → b ≢ 0 → (b == 0) ≡ false
not_zero b h = ne_eqb b 0 h

-- the first 0 stands at an index
pub text_of-found : (bytes : List ℕ) (i : ℕ) → i < length bytes → get_or bytes i 0 ≡ 0 → ((k : ℕ) → k < i → get_or bytes k 0 ≢ 0) → text_of bytes ≡ Some (take i bytes)
text_of-found [] i lt here before = absurd (omega (arith, lt))
text_of-found (b ∷ bytes) zero lt here before = text_of-end b bytes (ap (λ n. n == 0) here)
text_of-found (b ∷ bytes) (suc i) lt here before =
    text_of-next b bytes (not_zero b (before 0 (omega arith)))
    ∙ ap (option_map (λ text. b ∷ text)) (text_of-found bytes i (omega (arith, lt)) here (λ k h. before (suc k) (omega (arith, h))))

-- there is none
pub text_of-none : (bytes : List ℕ) → ((k : ℕ) → k < length bytes → get_or bytes k 0 ≢ 0) → text_of bytes ≡ None
text_of-none [] each = text_of-nil
text_of-none (b ∷ bytes) each =
    text_of-next b bytes (not_zero b (each 0 (omega arith)))
    ∙ ap (option_map (λ text. b ∷ text)) (text_of-none bytes (λ k h. each (suc k) (omega (arith, h))))

take-nil : (n : ℕ) → take {A = ℕ} n [] ≡ []
take-nil zero = refl
take-nil (suc n) = refl

longer : (b n : ℕ) (o : Option (List ℕ)) → IfSome o (λ text. n ≤ length text) → IfSome (option_map (λ text. b ∷ text) o) (λ text. suc n ≤ length text)
longer b n None h = tt
longer b n (Some text) h = omega (arith, h)

any_length : (o : Option (List ℕ)) → IfSome o (λ text. 0 ≤ length text)
any_length None = tt
any_length (Some text) = omega arith

-- fewer bytes show the same text, or none of more bytes than these
pub text_of-take : (bytes : List ℕ) (n m : ℕ) → n ≤ m → (text_of (take n bytes) ≡ text_of (take m bytes)) ⊎ ((text_of (take n bytes) ≡ None) × IfSome (text_of (take m bytes)) (λ text. n ≤ length text))
text_of-take [] n m h = inl (ap text_of (take-nil n ∙ sym (take-nil m)))
text_of-take (b ∷ bytes) zero m h = inr (text_of-nil, any_length (text_of (take m (b ∷ bytes))))
text_of-take (b ∷ bytes) (suc n) zero h = absurd (omega (arith, h))
text_of-take (b ∷ bytes) (suc n) (suc m) h = by (b == 0) refl (text_of-take bytes n m (omega (arith, h)))
  where
    by : (t : Bool) → (b == 0) ≡ t → (text_of (take n bytes) ≡ text_of (take m bytes)) ⊎ ((text_of (take n bytes) ≡ None) × IfSome (text_of (take m bytes)) (λ text. n ≤ length text)) → (text_of (b ∷ take n bytes) ≡ text_of (b ∷ take m bytes)) ⊎ ((text_of (b ∷ take n bytes) ≡ None) × IfSome (text_of (b ∷ take m bytes)) (λ text. suc n ≤ length text))
    by true e rest = inl (text_of-end b (take n bytes) e ∙ sym (text_of-end b (take m bytes) e))
    by false e (inl same) = inl (text_of-next b (take n bytes) e ∙ ap (option_map (λ text. b ∷ text)) same ∙ sym (text_of-next b (take m bytes) e))
    by false e (inr (none, far)) =
        let P : Option (List ℕ) → Type 0 = λ (o : Option (List ℕ)). IfSome o (λ text. suc n ≤ length text) in
        inr (text_of-next b (take n bytes) e ∙ ap (option_map (λ text. b ∷ text)) none, subst P (sym (text_of-next b (take m bytes) e)) (longer b n (text_of (take m bytes)) far))

-- a name is no longer than names may be
too_long : (text : List ℕ) → 4097 ≤ length text → is_name text ≡ false
too_long text h = by (is_name text) refl
  where
    by : (t : Bool) → is_name text ≡ t → t ≡ false
    by false e = refl
    by true e =
        let parts = and_parts (nat_le 1 (length text) && nat_le (length text) 4096) (list_all is_name_byte text) e in
        let short = leb-true (length text) 4096 (and_parts (nat_le 1 (length text)) (nat_le (length text) 4096) parts.0).1 in
        absurd (omega (arith, short, h))

no_name : (o : Option (List ℕ)) → IfSome o (λ text. 4097 ≤ length text) → name_of o ≡ None
no_name None h = refl
no_name (Some text) h = ap (λ t. cond t (Some text) None) (too_long text h)

-- so no more bytes need be looked at than the longest name has and one
pub name_of-bounded : (bytes : List ℕ) (most bound : ℕ) → bound ≡ min most 4097 → name_of (text_of (take bound bytes)) ≡ name_of (text_of (take most bytes))
name_of-bounded bytes most bound h = by (nat_le most 4097) refl
  where
    far : bound ≡ 4097 → (text_of (take bound bytes) ≡ text_of (take most bytes)) ⊎ ((text_of (take bound bytes) ≡ None) × IfSome (text_of (take most bytes)) (λ text. bound ≤ length text)) → name_of (text_of (take bound bytes)) ≡ name_of (text_of (take most bytes))
    far e (inl same) = ap name_of same
    far e (inr (none, long)) =
        let P : ℕ → Type 0 = λ (k : ℕ). IfSome (text_of (take most bytes)) (λ text. k ≤ length text) in
        ap name_of none ∙ sym (no_name (text_of (take most bytes)) (subst P e long))

    by : (t : Bool) → nat_le most 4097 ≡ t → name_of (text_of (take bound bytes)) ≡ name_of (text_of (take most bytes))
    by true e =
        let same : bound ≡ most = omega (arith, h, leb-true most 4097 e) in
        ap (λ k. name_of (text_of (take k bytes))) same
    by false e =
        let more = leb-false most 4097 e in
        let cut : bound ≡ 4097 = omega (arith, h, more) in
        far cut (text_of-take bytes bound most (omega (arith, cut, more)))

-- the look-up as code makes it
pub name_from-is : (ranges : List Range) (a most bound : ℕ) (rest front : List ℕ) (text : Option (List ℕ)) → bound ≡ min most 4097 → rest ≡ rest_at ranges a → front ≡ take bound rest → text ≡ text_of front → name_of text ≡ name_from ranges a most
name_from-is ranges a most bound rest front text h p q r =
    ap name_of (r ∙ ap text_of (q ∙ ap (take bound) p)) ∙ name_of-bounded (rest_at ranges a) most bound h

pub name_of-name : (text : List ℕ) (t : Bool) → t ≡ is_name text → t ≡ true → Some text ≡ name_of (Some text)
name_of-name text t h k = ap (λ b. cond b (Some text) None) (sym k ∙ h)

pub name_of-other : (text : List ℕ) (t : Bool) → t ≡ is_name text → t ≡ false → None ≡ name_of (Some text)
name_of-other text t h k = ap (λ b. cond b (Some text) None) (sym k ∙ h)

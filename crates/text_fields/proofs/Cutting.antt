-- Texts that are cut at a byte.
use Rattle.std.proofs.Common.{◌≡◌, ℕ, suc, ◌+◌, ◌<◌, ◌==◌, Bool, true, false, List, [], ◌∷◌, ◌++◌, length, take, drop, cond, Option, Some, None, refl, sym, ◌∙◌, ap, arith, nat_lt}
use Rattle.std.specs.Prelude.{not, ◌&&◌}
use Rattle.std.specs.Option.{option_map}
use Rattle.std.specs.List.{list_all, position_or_len}
use Rattle.std.proofs.lemmas.Bool.Decides.{nat_tests}
use Rattle.std.proofs.lemmas.Bool.{and_parts}
use Rattle.text_fields.specs.Lines.{cut_at}

abbrev is_byte : ℕ → ℕ → Bool
is_byte c b = b == c

same_byte : (c b : ℕ) → is_byte c b ≡ true → b ≡ c
same_byte c b e = grind (arith, nat_tests)

-- ---- what is cut

parts_more : (c b : ℕ) (bs : List ℕ) (p n m : ℕ) → n ≡ suc p → m ≡ suc (p + 1) → bs ≡ take p bs ++ c ∷ drop (p + 1) bs → b ∷ bs ≡ take n (b ∷ bs) ++ c ∷ drop m (b ∷ bs)
parts_more c b bs p n m e f whole =
    ap (λ xs. b ∷ xs) whole ∙ ap (λ k. take k (b ∷ bs) ++ c ∷ drop (suc (p + 1)) (b ∷ bs)) (sym e) ∙ ap (λ k. take n (b ∷ bs) ++ c ∷ drop k (b ∷ bs)) (sym f)

-- a text is what stands before the first place of a byte, the byte, and what stands behind it
parts_by : (c b : ℕ) (bs : List ℕ) (t : Bool) → is_byte c b ≡ t → (position_or_len (is_byte c) bs < length bs → bs ≡ take (position_or_len (is_byte c) bs) bs ++ c ∷ drop (position_or_len (is_byte c) bs + 1) bs)
    → cond (not t) (1 + position_or_len (is_byte c) bs) 0 < length (b ∷ bs)
    → b ∷ bs ≡ take (cond (not t) (1 + position_or_len (is_byte c) bs) 0) (b ∷ bs) ++ c ∷ drop (cond (not t) (1 + position_or_len (is_byte c) bs) 0 + 1) (b ∷ bs)
parts_by c b bs true e later h = ap (λ x. x ∷ bs) (same_byte c b e)
parts_by c b bs false e later h =
    let p : ℕ = position_or_len (is_byte c) bs in
    parts_more c b bs p (1 + p) (1 + p + 1) (omega arith) (omega arith) (later (omega arith))

parts : (c : ℕ) (text : List ℕ) → position_or_len (is_byte c) text < length text → text ≡ take (position_or_len (is_byte c) text) text ++ c ∷ drop (position_or_len (is_byte c) text + 1) text
parts c [] h = absurd (omega arith)
parts c (b ∷ bs) h = parts_by c b bs (is_byte c b) refl (parts c bs) h

cut_by : (c n : ℕ) (text : List ℕ) (p : List ℕ × List ℕ) (t : Bool) → nat_lt n (length text) ≡ t → (n < length text → text ≡ take n text ++ c ∷ drop (n + 1) text)
    → ◌≡◌ {A = Option (List ℕ × List ℕ)} (option_map (λ at. (take at text, drop (at + 1) text)) (cond t (Some n) None)) (Some p) → text ≡ p.0 ++ c ∷ p.1
cut_by c n text p true e whole h =
    let less : n < length text = grind (arith, nat_tests) in
    let same : (take n text, drop (n + 1) text) ≡ p = cc in
    whole less ∙ ap (λ (q : List ℕ × List ℕ). q.0 ++ c ∷ q.1) same
cut_by c n text p false e whole h = cc

pub cut-is : (c : ℕ) (text : List ℕ) (p : List ℕ × List ℕ) → cut_at c text ≡ Some p → text ≡ p.0 ++ c ∷ p.1
cut-is c text p h = cut_by c (position_or_len (is_byte c) text) text p (nat_lt (position_or_len (is_byte c) text) (length text)) refl (parts c text) h

-- ---- what is put together

-- a byte is none of a text's
abbrev pub lacks : ℕ → List ℕ → Bool
lacks c text = list_all (λ b. not (is_byte c b)) text

byte-same : (c : ℕ) → is_byte c c ≡ true
byte-same c = grind (arith, nat_tests)

one-before : (n : ℕ) → 1 + n ≡ suc n
one-before n = omega arith

place-there : (c : ℕ) (first rest : List ℕ) → lacks c first ≡ true → position_or_len (is_byte c) (first ++ c ∷ rest) ≡ length first
place-there c [] rest e = ap (λ t. cond (not t) (1 + position_or_len (is_byte c) rest) 0) (byte-same c)
place-there c (b ∷ bs) rest e =
    let (own, others) = and_parts (not (is_byte c b)) (lacks c bs) e in
    ap (λ t. cond t (1 + position_or_len (is_byte c) (bs ++ c ∷ rest)) 0) own ∙ ap (λ n. 1 + n) (place-there c bs rest others) ∙ one-before (length bs)

place-nowhere : (c : ℕ) (text : List ℕ) → lacks c text ≡ true → position_or_len (is_byte c) text ≡ length text
place-nowhere c [] e = refl
place-nowhere c (b ∷ bs) e =
    let (own, others) = and_parts (not (is_byte c b)) (lacks c bs) e in
    ap (λ t. cond t (1 + position_or_len (is_byte c) bs) 0) own ∙ ap (λ n. 1 + n) (place-nowhere c bs others) ∙ one-before (length bs)

take-front : (first rest : List ℕ) → take (length first) (first ++ rest) ≡ first
take-front [] rest = refl
take-front (b ∷ bs) rest = ap (λ xs. b ∷ xs) (take-front bs rest)

drop-front : (c : ℕ) (first rest : List ℕ) → drop (length first + 1) (first ++ c ∷ rest) ≡ rest
drop-front c [] rest = refl
drop-front c (b ∷ bs) rest =
    let e : suc (length bs) + 1 ≡ suc (length bs + 1) = omega arith in
    ap (λ n. drop n (b ∷ (bs ++ c ∷ rest))) e ∙ drop-front c bs rest

shorter : (c : ℕ) (first rest : List ℕ) → length first < length (first ++ c ∷ rest)
shorter c [] rest = omega arith
shorter c (b ∷ bs) rest = let h = shorter c bs rest in omega arith

is-less : (a b : ℕ) → a < b → nat_lt a b ≡ true
is-less a b h = grind (arith, nat_tests)

not-less : (a : ℕ) → nat_lt a a ≡ false
not-less a = grind (arith, nat_tests)

found_there : (n : ℕ) (text first rest : List ℕ) (c : ℕ) → n ≡ length first → text ≡ first ++ c ∷ rest
    → option_map {U = List ℕ × List ℕ} (λ at. (take at text, drop (at + 1) text)) (cond (nat_lt n (length text)) (Some n) None) ≡ Some (first, rest)
found_there n text first rest c is whole =
    rw (whole, is, is-less (length first) (length (first ++ c ∷ rest)) (shorter c first rest), take-front first (c ∷ rest), drop-front c first rest) refl

pub cut-there : (c : ℕ) (first rest : List ℕ) → lacks c first ≡ true → cut_at c (first ++ c ∷ rest) ≡ Some (first, rest)
cut-there c first rest e = found_there (position_or_len (is_byte c) (first ++ c ∷ rest)) (first ++ c ∷ rest) first rest c (place-there c first rest e) refl

pub cut-nowhere : (c : ℕ) (text : List ℕ) → lacks c text ≡ true → cut_at c text ≡ None
cut-nowhere c text e = rw (place-nowhere c text e, not-less (length text)) refl

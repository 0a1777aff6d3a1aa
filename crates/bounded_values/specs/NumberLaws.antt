-- The arithmetic of rules 4 to 7: what the operators do to places.
use Rattle.std.proofs.Common.{◌≡◌, ℕ, ◌+◌, ◌-◌, ◌*◌, ◌/◌, ◌%◌, ◌^◌, ◌<◌, ◌≤◌, ℤ, pos, negsuc, ◌+ℤ◌, ◌-ℤ◌, arith, refl, sym, ap, ◌∙◌, subst, true, false, ◌==◌, ⊎_elim}
use Rattle.std.proofs.lemmas.Int.{ints}
use Rattle.std.proofs.lemmas.Bool.Decides.{nat_tests}
use Rattle.std.proofs.lemmas.Nat.{pow_pos, pow_below, mod_below, div-add-mod', pow-add}
use Rattle.std.proofs.lemmas.Bool.{cases_lt}
use Rattle.std.proofs.lemmas.Grind.{common_steps}
use Rattle.std.proofs.Math.Nat.{mod-le, mod-eq_of_lt}
use Rattle.std.specs.Int.{is_power_of_two}
use Rattle.bit_words.specs.declared.op.Op.TheVariants.{Add, Sub, And, Eq}
use Rattle.bit_words.specs.declared.width.Width.TheVariants.{B32}
use Rattle.bit_words.specs.Width.{cut, modulo, word_of}
use Rattle.bit_words.specs.Operators.{apply_op, formula, one_if}
use Rattle.bit_words.proofs.Laws.{and-high_mask, apply-Eq}
use Rattle.memory_map.specs.Alignment.{IsAlignment}
use Rattle.memory_map.proofs.Alignments.{alignment_power}
use Rattle.address_regions.specs.Places.{place_at}
use Rattle.address_regions.proofs.PlaceLaws.{residue, residue-add, place_at-lt, place_at-wrapped, place_at-add, place_at-sub}
use Rattle.bounded_values.specs.Rules.{offset_up, offset_down, rounded_down, unit_of, is_stack_mask, is_outside}
use Rattle.bounded_values.specs.RoundingLaws.{power_of, residue-mod, modulo-multiple}

-- ---- 4

pub add-place : (b n x y : ℕ) (o : ℤ) → x ≡ place_at b o → y ≡ n → apply_op Add B32 x y ≡ place_at b (offset_up o n)
unfolding apply_op formula
add-place b n x y o e f =
    let at = place_at-wrapped b (o +ℤ pos n) ∙ place_at-add b n o in
    omega arith

pub add-comm : (x y : ℕ) → apply_op Add B32 x y ≡ apply_op Add B32 y x
unfolding apply_op formula
add-comm x y = omega arith

pub sub-place : (b n x y : ℕ) (o : ℤ) → x ≡ place_at b o → y ≡ n → y < 2 ^ 32 → apply_op Sub B32 x y ≡ place_at b (offset_down o n)
unfolding apply_op formula
sub-place b n x y o e f h =
    let at = place_at-wrapped b (o -ℤ pos n) ∙ place_at-sub b n o (omega arith) in
    let low = place_at-lt b o in
    omega arith

-- ---- 5

residue-word_of : (o : ℤ) → residue o ≡ word_of B32 o
residue-word_of (pos n) = refl
residue-word_of (negsuc n) = refl

place_at-word : (b : ℕ) (o : ℤ) → place_at b o ≡ (word_of B32 o + b) % 2 ^ 32
place_at-word b o =
    let e : pos b +ℤ o ≡ o +ℤ pos b = omega (arith, ints) in
    ap residue e ∙ residue-add o b ∙ ap (λ m. (m + b) % 2 ^ 32) (residue-word_of o)

word-lt : (o : ℤ) → word_of B32 o < 2 ^ 32
word-lt (pos n) = omega arith
word-lt (negsuc n) = omega arith

pub sub-places : (b x y : ℕ) (o q : ℤ) → x ≡ place_at b o → y ≡ place_at b q → apply_op Sub B32 x y ≡ apply_op Sub B32 (word_of B32 o) (word_of B32 q)
unfolding apply_op formula
sub-places b x y o q e f =
    let g = e ∙ place_at-word b o in
    let h = f ∙ place_at-word b q in
    let i = word-lt o in
    let j = word-lt q in
    omega arith

same_test : (a b c d : ℕ) → (a ≡ b → c ≡ d) → (c ≡ d → a ≡ b) → (a == b) ≡ (c == d)
same_test a b c d f g = grind (arith, nat_tests)

pub eq-places : (b x y : ℕ) (o q : ℤ) → x ≡ place_at b o → y ≡ place_at b q → apply_op Eq B32 x y ≡ apply_op Eq B32 (word_of B32 o) (word_of B32 q)
eq-places b x y o q e f =
    let g = e ∙ place_at-word b o in
    let h = f ∙ place_at-word b q in
    let i = word-lt o in
    let j = word-lt q in
    apply-Eq B32 x y
    ∙ ap one_if (same_test (cut B32 x) (cut B32 y) (cut B32 (word_of B32 o)) (cut B32 (word_of B32 q)) (λ s. omega arith) (λ s. omega arith))
    ∙ sym (apply-Eq B32 (word_of B32 o) (word_of B32 q))

-- ---- 6

-- a stack mask is 2 ^ 32 less a power of two that divides the alignment
record IsMask (n align : ℕ) : Type 0 where
  log : ℕ
  times : ℕ
  below : log < 32
  unit : unit_of n ≡ 2 ^ log
  mask : n ≡ 2 ^ 32 - 2 ^ log
  multiple : align ≡ times * 2 ^ log

mask_tells : (n align : ℕ) → is_stack_mask n align ≡ true → (is_power_of_two (unit_of n) ≡ true) × (unit_of n ≤ align)
mask_tells n align e = grind (arith, nat_tests, common_steps)

stack_mask : (n align : ℕ) → n < 2 ^ 32 → IsAlignment align → is_stack_mask n align ≡ true → IsMask n align
stack_mask n align h is e =
    let a = alignment_power align is in
    let (one, most) = mask_tells n align e in
    let (j, below, power) = power_of (unit_of n) one (omega arith) in
    let positive = pow_pos j in
    let le : j ≤ a.log = ⊎_elim (λ (l : a.log < j). let q = pow_below a.log j l in let r = a.power in absurd (omega arith)) (λ (l : j ≤ a.log). l) (cases_lt a.log j) in
    let sum : a.log - j + j ≡ a.log = omega arith in
    record { log = j; times = 2 ^ (a.log - j); below = below; unit = power; mask = omega arith; multiple = a.power ∙ ap (λ k. 2 ^ k) (sym sum) ∙ pow-add 2 (a.log - j) j }

-- x without its remainder by k, as the analysis and as AND compute it
lowered : (x k : ℕ) → x < 2 ^ 32 → 0 < k → (x + (2 ^ 32 - x % k)) % 2 ^ 32 ≡ x / k * k
lowered x k h p =
    let e = div-add-mod' x k in
    let r = mod_below x k p in
    omega arith

pub mask-place : (b n x y align : ℕ) (o : ℤ) → y < 2 ^ 32 → IsAlignment align → b % align ≡ 0 → is_stack_mask n align ≡ true → x ≡ place_at b o → y ≡ n → apply_op And B32 x y ≡ place_at b (rounded_down o (unit_of n))
mask-place b n x y align o h a d e f g =
    let m = stack_mask n align (omega arith) a e in
    let k = 2 ^ m.log in
    let low = place_at-lt b o in
    let base : b ≡ b / align * m.times * 2 ^ m.log =
    sym (div-add-mod' b align) ∙ ap (λ r. b / align * align + r) d ∙ ap (λ r. b / align * r + 0) m.multiple ∙ omega arith in
    let rest : place_at b o % 2 ^ m.log ≡ modulo o (2 ^ m.log) =
    residue-mod (pos b +ℤ o) m.log (omega arith)
    ∙ ap (λ c. modulo (pos c +ℤ o) (2 ^ m.log)) base
    ∙ modulo-multiple (b / align * m.times) (2 ^ m.log) o (pow_pos m.log) in
    let less : modulo o (2 ^ m.log) < 2 ^ 32 = subst (λ r. r < 2 ^ 32) rest (omega (arith, mod-le (place_at b o) (2 ^ m.log))) in
    let right : place_at b (rounded_down o (2 ^ m.log)) ≡ place_at b o / 2 ^ m.log * 2 ^ m.log =
    place_at-wrapped b (o -ℤ pos (modulo o (2 ^ m.log)))
    ∙ place_at-sub b (modulo o (2 ^ m.log)) o less
    ∙ ap (λ r. (place_at b o + (2 ^ 32 - r)) % 2 ^ 32) (sym rest)
    ∙ lowered (place_at b o) (2 ^ m.log) low (pow_pos m.log) in
    let left : apply_op And B32 (place_at b o) (2 ^ 32 - 2 ^ m.log) ≡ place_at b o / 2 ^ m.log * 2 ^ m.log =
    and-high_mask B32 (place_at b o) m.log (omega arith) ∙ ap (λ r. r / 2 ^ m.log * 2 ^ m.log) (mod-eq_of_lt low) in
    ap (λ r. apply_op And B32 r y) f ∙ ap (apply_op And B32 (place_at b o)) (g ∙ m.mask) ∙ left ∙ sym right ∙ ap (λ u. place_at b (rounded_down o u)) (sym m.unit)

-- ---- 7

outside_tells : (n : ℕ) → is_outside n ≡ true → 4096 ≤ n → n < 0xF0000000 → ⊥
outside_tells n e low high = grind (arith, nat_tests, common_steps)

apart_test : (a b : ℕ) → (a ≡ b → ⊥) → (a == b) ≡ false
apart_test a b f = grind (arith, nat_tests)

pub eq-apart : (n x y : ℕ) → y < 2 ^ 32 → is_outside n ≡ true → 4096 ≤ x → x < 0xF0000000 → y ≡ n → apply_op Eq B32 x y ≡ 0
eq-apart n x y h e low high f =
    apply-Eq B32 x y ∙ ap one_if (apart_test (cut B32 x) (cut B32 y) (λ s. outside_tells n e (omega arith) (omega arith)))

pub eq-comm : (x y : ℕ) → apply_op Eq B32 x y ≡ apply_op Eq B32 y x
eq-comm x y = apply-Eq B32 x y ∙ ap one_if (same_test (cut B32 x) (cut B32 y) (cut B32 y) (cut B32 x) sym sym) ∙ sym (apply-Eq B32 y x)

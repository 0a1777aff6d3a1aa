-- A shift to the left that loses no bit of the high bound loses none of the low bound and of the stride.
use Rattle.std.proofs.Common.{◌≡◌, ℕ, ◌-◌, ◌*◌, ◌%◌, ◌^◌, ◌<◌, ◌≤◌, sym, ap, ◌∙◌, arith, ◌&&◌, Some, None, ⊎_elim}
use Rattle.std.specs.Prelude.{nat_le, nat_lt}
use Rattle.std.proofs.lemmas.Bool.{and_from, cond-true, le-leb, lt-ltb, cases_eq}
use Rattle.std.proofs.lemmas.Nat.{mul-le}
use Rattle.std.proofs.Math.Nat.{mod-eq_of_lt}
use Rattle.interval_values.specs.declared.value.NumberSpan.{NumberSpan}
use Rattle.interval_values.specs.declared.value.Interval.{Interval}
use Rattle.interval_values.specs.Spans.{span}
use Rattle.interval_values.specs.Rules.{shifted_left}
use Rattle.interval_values.specs.SpanLaws.{stride-zero, stride-divides, number_span-tells}

-- the stride is at most the high bound
stride-le : (m : NumberSpan) → m.stride ≤ m.high
stride-le m =
    let t = number_span-tells m.low m.high m.stride m.formed in
    let (k, e) = stride-divides (m.high - m.low) m.stride t.stride in
    ⊎_elim
    (λ (z : k ≡ 0). let none : m.high - m.low ≡ 0 = e ∙ ap (λ u. u * m.stride) z ∙ omega arith in let none_stride = stride-zero (m.high - m.low) m.stride t.stride none in omega arith)
    (λ (z : k ≡ 0 → ⊥). let l = mul-le 1 m.stride k m.stride (omega arith) (omega arith) in omega arith)
    (cases_eq k 0)

whole : (n h c : ℕ) → n ≤ h → h * 2 ^ c < 2 ^ 32 → n * 2 ^ c % 2 ^ 32 ≡ n * 2 ^ c
whole n h c l f = let g = mul-le n (2 ^ c) h (2 ^ c) l (omega arith) in mod-eq_of_lt (omega arith)

pub shifted_left-is : (m : NumberSpan) (c : ℕ) (r : Interval) → 1 ≤ c → c ≤ 31 → m.high * 2 ^ c < 2 ^ 32 → r ≡ span (m.low * 2 ^ c % 2 ^ 32) (m.high * 2 ^ c % 2 ^ 32) (m.stride * 2 ^ c % 2 ^ 32) → Some r ≡ shifted_left m c
shifted_left-is m c r f g h e =
    let order = (number_span-tells m.low m.high m.stride m.formed).ordered in
    let low = whole m.low m.high c order h in
    let high = whole m.high m.high c (omega arith) h in
    let stride = whole m.stride m.high c (stride-le m) h in
    let is : r ≡ span (m.low * 2 ^ c) (m.high * 2 ^ c) (m.stride * 2 ^ c) = e ∙ ap (λ u. span u (m.high * 2 ^ c % 2 ^ 32) (m.stride * 2 ^ c % 2 ^ 32)) low ∙ ap (λ u. span (m.low * 2 ^ c) u (m.stride * 2 ^ c % 2 ^ 32)) high ∙ ap (span (m.low * 2 ^ c) (m.high * 2 ^ c)) stride in
    ap Some is ∙ sym (cond-true (nat_le 1 c && (nat_le c 31 && nat_lt (m.high * 2 ^ c) (2 ^ 32))) (Some (span (m.low * 2 ^ c) (m.high * 2 ^ c) (m.stride * 2 ^ c))) None (and_from (nat_le 1 c) (nat_le c 31 && nat_lt (m.high * 2 ^ c) (2 ^ 32)) (le-leb 1 c f) (and_from (nat_le c 31) (nat_lt (m.high * 2 ^ c) (2 ^ 32)) (le-leb c 31 g) (lt-ltb (m.high * 2 ^ c) (2 ^ 32) h))))

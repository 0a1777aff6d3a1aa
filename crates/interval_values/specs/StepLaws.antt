-- Steps of two spans together: by the greatest common divisor of their strides, from the least sum or difference up.
use Rattle.std.proofs.Common.{◌≡◌, ℕ, ◌+◌, ◌-◌, ◌*◌, ◌^◌, ◌<◌, ◌≤◌, ℤ, pos, ◌+ℤ◌, ◌≤ℤ◌, ap, ◌∙◌, arith, ⊎_elim}
use Rattle.std.proofs.lemmas.Int.{ints}
use Rattle.std.proofs.lemmas.Bool.{cases_lt}
use Rattle.std.proofs.lemmas.Nat.{mul-le}
use Rattle.interval_values.specs.declared.value.NumberSpan.{NumberSpan}
use Rattle.interval_values.specs.declared.value.OffsetSpan.{OffsetSpan}
use Rattle.interval_values.specs.Divisors.{gcd}
use Rattle.interval_values.specs.Forms.{distance}
use Rattle.interval_values.specs.Stands.{IsNumberOf, IsOffsetOf}
use Rattle.interval_values.specs.SpanLaws.{stride-divides, number_span-tells, offset_span-tells, distance-is}
use Rattle.interval_values.specs.DivisorLaws.{shares}

pub low-le : (m : NumberSpan) (x : ℕ) → IsNumberOf m x → m.low ≤ x
low-le m x h = let i = h.is in omega arith

pub high-lt : (m : NumberSpan) → m.high < 2 ^ 32
high-lt m = (number_span-tells m.low m.high m.stride m.formed).fits

pub offset-low_le : (m : OffsetSpan) (o : ℤ) → IsOffsetOf m o → m.low ≤ℤ o
offset-low_le m o h = let i = h.is in omega (arith, ints)

-- ---- from the high bound down

-- k strides are some of n strides: the others lead to the high bound
others : (n k s : ℕ) → k * s ≤ n * s → (j : ℕ) × (n * s ≡ k * s + j * s)
others n k s h =
    ⊎_elim
    (λ (l : n < k). let above = mul-le n s k s (omega arith) (omega arith) in (0, omega arith))
    (λ (l : k ≤ n). let sum : n ≡ k + (n - k) = omega arith in (n - k, ap (λ u. u * s) sum ∙ omega arith))
    (cases_lt n k)

pub from_high : (m : NumberSpan) (x : ℕ) → IsNumberOf m x → (j : ℕ) × (m.high ≡ x + j * m.stride)
from_high m x h =
    let t = number_span-tells m.low m.high m.stride m.formed in
    let order = t.ordered in
    let is = h.is in
    let high = h.to_high in
    let (k, e) = stride-divides (m.high - m.low) m.stride t.stride in
    let (j, f) = others k h.steps m.stride (omega arith) in
    (j, omega arith)

pub offset-from_high : (m : OffsetSpan) (o : ℤ) → IsOffsetOf m o → (j : ℕ) × (m.high ≡ o +ℤ pos (j * m.stride))
offset-from_high m o h =
    let t = offset_span-tells m.low m.high m.stride m.formed in
    let is = h.is in
    let high = h.to_high in
    let (k, e) = stride-divides (distance m.low m.high) m.stride t.stride in
    let d : m.high ≡ m.low +ℤ pos (k * m.stride) = distance-is m.low m.high t.ordered ∙ ap (λ u. m.low +ℤ pos u) e in
    let (j, f) = others k h.steps m.stride (omega (arith, ints)) in
    (j, omega (arith, ints))

-- ---- steps together

-- j strides and k other ones are steps of the common divisor
pub steps_together : (s t j k : ℕ) → (i : ℕ) × (j * s + k * t ≡ i * gcd s t)
steps_together s t j k =
    let d = shares s t in
    (j * d.first + k * d.second, ap (λ u. j * u + k * t) d.first_is ∙ ap (λ u. j * (d.first * gcd s t) + k * u) d.second_is ∙ omega arith)

pub sum-steps : (m n : NumberSpan) (x y : ℕ) → IsNumberOf m x → IsNumberOf n y → (i : ℕ) × (x + y ≡ m.low + n.low + i * gcd m.stride n.stride)
sum-steps m n x y h k =
    let (i, e) = steps_together m.stride n.stride h.steps k.steps in
    let a = h.is in
    let b = k.is in
    (i, omega arith)

-- x + (high - y) is the low bound of x and steps
pub difference-steps : (m n : NumberSpan) (x y : ℕ) → IsNumberOf m x → IsNumberOf n y → (i : ℕ) × (x + n.high ≡ y + m.low + i * gcd m.stride n.stride)
difference-steps m n x y h k =
    let (j, f) = from_high n y k in
    let (i, e) = steps_together m.stride n.stride h.steps j in
    let a = h.is in
    (i, omega arith)

pub offset_difference-steps : (m n : OffsetSpan) (o q : ℤ) → IsOffsetOf m o → IsOffsetOf n q → (i : ℕ) × (o +ℤ n.high ≡ q +ℤ m.low +ℤ pos (i * gcd m.stride n.stride))
offset_difference-steps m n o q h k =
    let (j, f) = offset-from_high n q k in
    let (i, e) = steps_together m.stride n.stride h.steps j in
    let a = h.is in
    let sum : o +ℤ n.high ≡ q +ℤ m.low +ℤ pos (h.steps * m.stride + j * n.stride) = omega (arith, ints) in
    (i, sum ∙ ap (λ u. q +ℤ m.low +ℤ pos u) e)

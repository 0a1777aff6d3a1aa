-- Addresses as sums of words: a base, an index times its scale, and a displacement.
use Rattle.std.proofs.Common.{◌≡◌, ℕ, ◌+◌, ◌*◌, ◌<◌, ◌%◌, ◌^◌, ◌==◌, Bool, true, false, cond, Option, Some, None, refl, sym, ◌∙◌, subst, arith}
use Rattle.std.specs.Prelude.{⊤}
use Rattle.std.proofs.lemmas.Bool.{eqb-true}
use Rattle.bit_words.specs.declared.width.Width.TheVariants.{B32}
use Rattle.bit_words.specs.declared.op.Op.TheVariants.{Add, Shl}
use Rattle.bit_words.specs.Width.{cut}
use Rattle.bit_words.specs.Operators.{apply_op, formula}
use Rattle.bit_words.proofs.Laws.{add-add, apply-cut_right}
use Rattle.address_regions.specs.declared.region.Region.{Region}
use Rattle.address_regions.specs.declared.region.Region.TheVariants.{Stack, Fs, Gs, Block}
use Rattle.address_regions.specs.Extents.{has_one_base}
use Rattle.domain_laws.specs.declared.reach.Reach.{Reach}
use Rattle.domain_laws.specs.declared.reach.Reach.TheVariants as reaches
use Rattle.domain_laws.specs.Reached.{named}
use Rattle.transfer_functions.specs.Values.{log_of_scale}

pub add_is : (x y : ℕ) → apply_op Add B32 x y ≡ (x + y) % 2 ^ 32
unfolding apply_op formula
add_is x y = omega arith

-- base + index + displacement, each word by word
pub sum_is : (b i disp : ℕ) → apply_op Add B32 (apply_op Add B32 b (i % 2 ^ 32)) (cut B32 disp) ≡ (b + i + disp) % 2 ^ 32
sum_is b i disp =
    let word : cut B32 (b + i % 2 ^ 32 + disp) ≡ (b + i + disp) % 2 ^ 32 = omega arith in
    apply-cut_right Add B32 (apply_op Add B32 b (i % 2 ^ 32)) disp refl ∙ add-add B32 b (i % 2 ^ 32) disp ∙ word

-- a shift by the logarithm of a scale is a product with it
abbrev pub IsLog : Option ℕ → ℕ → Type 0
IsLog None scale = ⊤
IsLog (Some log) scale = (log < 2 ^ 32) × ((x : ℕ) → apply_op Shl B32 x log ≡ x * scale % 2 ^ 32)

shift_one : (x : ℕ) → apply_op Shl B32 x 0 ≡ x * 1 % 2 ^ 32
unfolding apply_op formula
shift_one x = omega arith

shift_two : (x : ℕ) → apply_op Shl B32 x 1 ≡ x * 2 % 2 ^ 32
unfolding apply_op formula
shift_two x = omega arith

shift_four : (x : ℕ) → apply_op Shl B32 x 2 ≡ x * 4 % 2 ^ 32
unfolding apply_op formula
shift_four x = omega arith

shift_eight : (x : ℕ) → apply_op Shl B32 x 3 ≡ x * 8 % 2 ^ 32
unfolding apply_op formula
shift_eight x = omega arith

-- a scale is what a test says, or another test goes on
scale_at : (scale n log : ℕ) (rest : Option ℕ) (b : Bool) → (scale == n) ≡ b → IsLog (Some log) n → IsLog rest scale → IsLog (cond b (Some log) rest) scale
scale_at scale n log rest true e own other = subst (λ (z : ℕ). IsLog (Some log) z) (sym (eqb-true scale n e)) own
scale_at scale n log rest false e own other = other

pub log_is : (scale : ℕ) → IsLog (log_of_scale scale) scale
log_is scale =
    scale_at scale 1 0 _ (scale == 1) refl (omega arith, shift_one)
    (scale_at scale 2 1 _ (scale == 2) refl (omega arith, shift_two)
    (scale_at scale 4 2 _ (scale == 4) refl (omega arith, shift_four)
    (scale_at scale 8 3 None (scale == 8) refl (omega arith, shift_eight) tt)))

-- a region with one base is never named
pub not_named : (x : Reach) (s : Region) → named x ≡ Some s → has_one_base s ≡ true → ⊥
not_named (reaches.Number low high) s e b = cc
not_named reaches.Anywhere s e b = cc
not_named (reaches.Place Stack low high) s e b = cc
not_named (reaches.Place Fs low high) s e b = cc
not_named (reaches.Place Gs low high) s e b = cc
not_named (reaches.Place (Block site size zeroed) low high) s e b =
    let same : Block site size zeroed ≡ s = cc in
    let f : false ≡ true = subst (λ (r : Region). has_one_base r ≡ true) (sym same) b in cc

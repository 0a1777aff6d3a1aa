-- Values of the code whose bounds were cast between signed types.
use Rattle.std.proofs.Common.{◌≡◌, ℕ, ◌^◌, ℤ, pos, negsuc, w32, w64, FitsSigned, to_z, of_z, sym, ap, ◌∙◌, true, Bool, ◌==◌}
use Rattle.std.proofs.lemmas.Int.{to_z-of_z}
use Rattle.std.proofs.lemmas.Bool.{ltb-true, eqb-true, eq-eqb}
use Rattle.std.proofs.lemmas.Bool.Decides.{Decides-int_eq, same_from_decides}
use Rattle.std.specs.Ordering.{int_eq}
use Rattle.bit_words.specs.declared.width.Width.TheVariants.{B32}
use Rattle.bit_words.specs.Width.{is_signed}
use Rattle.interval_values.specs.declared.value.OffsetSpan.{OffsetSpan}
use Rattle.interval_values.specs.declared.value.Interval.TheVariants.{Offsets}
use Rattle.interval_values.specs.Forms.{is_offset_span}
use Rattle.interval_values.specs.Spans.{offsets}
use Rattle.interval_values.specs.SpanLaws.{offsets-is, offset_span-tells}

pub signed_fits : (z : ℤ) → is_signed B32 z ≡ true → FitsSigned w32 z
signed_fits (pos n) e = record { sfits = ltb-true n (2 ^ 31) e }
signed_fits (negsuc n) e = record { sfits = ltb-true n (2 ^ 31) e }

-- an offset as the code casts it, from 64 bits to 32
pub cast_is : (z : ℤ) → FitsSigned w64 z → is_signed B32 z ≡ true → to_z w32 (of_z w32 (to_z w64 (of_z w64 z))) ≡ z
cast_is z f e = ap (λ y. to_z w32 (of_z w32 y)) (to_z-of_z w64 z f) ∙ to_z-of_z w32 z (signed_fits z e)

pub cast_test : (l h : ℤ) (s : ℕ) (t : Bool) → FitsSigned w64 l → FitsSigned w64 h → t ≡ is_offset_span (to_z w64 (of_z w64 l)) (to_z w64 (of_z w64 h)) s → t ≡ is_offset_span l h s
cast_test l h s t f g e = e ∙ ap (λ z. is_offset_span z (to_z w64 (of_z w64 h)) s) (to_z-of_z w64 l f) ∙ ap (λ z. is_offset_span l z s) (to_z-of_z w64 h g)

pub cast_formed : (l h : ℤ) (s : ℕ) → FitsSigned w64 l → FitsSigned w64 h → is_offset_span l h s ≡ true → is_offset_span (to_z w32 (of_z w32 (to_z w64 (of_z w64 l)))) (to_z w32 (of_z w32 (to_z w64 (of_z w64 h)))) s ≡ true
cast_formed l h s f g e =
    let t = offset_span-tells l h s e in
    ap (λ z. is_offset_span z (to_z w32 (of_z w32 (to_z w64 (of_z w64 h)))) s) (cast_is l f t.low_fits) ∙ ap (λ z. is_offset_span l z s) (cast_is h g t.high_fits) ∙ e

-- the value of these bounds
pub cast_offsets : (m : OffsetSpan) (l h : ℤ) → m.low ≡ l → m.high ≡ h → Offsets m ≡ offsets m.region l h m.stride
cast_offsets m l h e f = sym (offsets-is m) ∙ ap (λ z. offsets m.region z m.high m.stride) e ∙ ap (λ z. offsets m.region l z m.stride) f

-- integers are compared by their bits
pub same_bits : (a b : ℤ) → FitsSigned w64 a → FitsSigned w64 b → (of_z w64 a == of_z w64 b) ≡ int_eq a b
same_bits a b f g =
    same_from_decides (of_z w64 a == of_z w64 b) (int_eq a b)
    ((λ e. sym (to_z-of_z w64 a f) ∙ ap (to_z w64) (eqb-true (of_z w64 a) (of_z w64 b) e) ∙ to_z-of_z w64 b g), (λ e. eq-eqb (of_z w64 a) (of_z w64 b) (ap (of_z w64) e)))
    (Decides-int_eq a b)

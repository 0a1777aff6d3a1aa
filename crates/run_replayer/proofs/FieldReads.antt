-- The texts of fields are plain, and are read as what they are of.
use Rattle.std.proofs.Common.{◌≡◌, ℕ, zero, suc, ◌+◌, ◌*◌, ◌^◌, ◌/◌, ◌%◌, ◌<◌, ◌≤◌, Bool, true, false, List, [], ◌∷◌, length, Option, Some, refl, sym, ◌∙◌, ap, subst, arith}
use Rattle.std.proofs.lemmas.Bool.Decides.{nat_tests}
use Rattle.std.proofs.lemmas.List.Elements.{All-cons, All-nil}
use Rattle.std.specs.Prelude.{All, option_map}
use Rattle.text_fields.specs.Hex.{hex2, hex8, hex_text}
use Rattle.memory_map.specs.declared.choice.Choice.{Choice}
use Rattle.memory_map.specs.declared.choice.Fill.{Fill}
use Rattle.x86_machine.specs.StartLaws.{IsFill}
use Rattle.run_replayer.specs.declared.record.EndWord.{EndWord}
use Rattle.run_replayer.specs.declared.record.EndWord.TheVariants as ends
use Rattle.run_replayer.specs.declared.record.RunStep.{RunStep}
use Rattle.text_fields.specs.Fields.{byte_of, then_field, word_of, bool_of, bool_text}
use Rattle.run_replayer.specs.Fields.{bases_of, bit_of, bits_of, choice_of, ending_of, fill_bytes_of, fill_of, fits_fill, flags_of, regs_of, six_flags_of, step_of}
use Rattle.run_replayer.specs.Texts.{end_word, flag_digits}
use Rattle.run_replayer.specs.Laws.{IsChoice, IsStep}
use Rattle.text_fields.proofs.FieldTexts.{byte_read, bytes_read, word_read, then_given, bool_read}
use Rattle.run_replayer.proofs.LineTexts.{words_of}
use Rattle.text_fields.proofs.Splitting.{ArePlain, IsPlain, one}
use Rattle.text_fields.proofs.PlainTexts.{plain_is, word_plain}

-- ---- plain texts

bits_plain : (b : ℕ) (more : List ℕ) → IsPlain more → IsPlain ((48 + b) ∷ more)
bits_plain b more plain = All-cons (λ b. 32 < b) (48 + b) more (omega arith) plain

pub flags_plain : (flags : ℕ) → IsPlain (flag_digits flags)
unfolding flag_digits
flags_plain n =
    bits_plain (n % 2) ((48 + n / 2 % 2) ∷ (48 + n / 4 % 2) ∷ (48 + n / 8 % 2) ∷ (48 + n / 16 % 2) ∷ (48 + n / 32 % 2) ∷ []) (bits_plain (n / 2 % 2) ((48 + n / 4 % 2) ∷ (48 + n / 8 % 2) ∷ (48 + n / 16 % 2) ∷ (48 + n / 32 % 2) ∷ []) (bits_plain (n / 4 % 2) ((48 + n / 8 % 2) ∷ (48 + n / 16 % 2) ∷ (48 + n / 32 % 2) ∷ []) (bits_plain (n / 8 % 2) ((48 + n / 16 % 2) ∷ (48 + n / 32 % 2) ∷ []) (bits_plain (n / 16 % 2) ((48 + n / 32 % 2) ∷ []) (bits_plain (n / 32 % 2) [] (All-nil (λ b. 32 < b)))))))

above_all : (c : ℕ) (cs : List ℕ) → 32 < c → IsPlain cs → IsPlain (c ∷ cs)
above_all c cs h plain = All-cons (λ b. 32 < b) c cs h plain

pub bool_plain : (b : Bool) → IsPlain (bool_text b)
bool_plain true = above_all 49 [] (omega arith) (All-nil (λ b. 32 < b))
bool_plain false = above_all 48 [] (omega arith) (All-nil (λ b. 32 < b))

pub words_plain : (words : List ℕ) (more : List (List ℕ)) → ArePlain more → ArePlain (words_of words more)
words_plain [] more plain = plain
words_plain (w ∷ words) more plain = one (hex8 w) (words_of words more) (word_plain w) (words_plain words more plain)

-- ---- reads

then_word : {B : Type 0} (n : ℕ) (fs : List (List ℕ)) (go : ℕ → List (List ℕ) → Option B) → n < 2 ^ 32 → then_field word_of (hex8 n ∷ fs) go ≡ go n fs
then_word n fs go small = then_given word_of (hex8 n) fs n go (word_read n small)

pub bases_read : (f g : ℕ) → f < 2 ^ 32 → g < 2 ^ 32 → bases_of (words_of (f ∷ g ∷ []) []) ≡ Some (f, g)
unfolding bases_of
bases_read f g small other = then_word f _ _ small ∙ then_word g [] _ other

-- a list of eight words
record Eight (regs : List ℕ) : Type 0 where
  a : ℕ
  b : ℕ
  c : ℕ
  d : ℕ
  s : ℕ
  t : ℕ
  u : ℕ
  v : ℕ
  is : regs ≡ a ∷ b ∷ c ∷ d ∷ s ∷ t ∷ u ∷ v ∷ []

eight : (regs : List ℕ) → length regs ≡ 8 → Eight regs
eight (a ∷ b ∷ c ∷ d ∷ s ∷ t ∷ u ∷ v ∷ []) e = record { a = a; b = b; c = c; d = d; s = s; t = t; u = u; v = v; is = refl }
eight _ e = absurd (omega arith)

eight_read : (a b c d s t u v : ℕ) → All (λ n. n < 2 ^ 32) (a ∷ b ∷ c ∷ d ∷ s ∷ t ∷ u ∷ v ∷ [])
    → regs_of (words_of (a ∷ b ∷ c ∷ d ∷ s ∷ t ∷ u ∷ v ∷ []) []) ≡ Some (a ∷ b ∷ c ∷ d ∷ s ∷ t ∷ u ∷ v ∷ [])
unfolding regs_of
eight_read a b c d s t u v small =
    then_word a _ _ (small 0 0 (omega arith)) ∙ then_word b _ _ (small 1 0 (omega arith)) ∙ then_word c _ _ (small 2 0 (omega arith)) ∙ then_word d _ _ (small 3 0 (omega arith))
    ∙ then_word s _ _ (small 4 0 (omega arith)) ∙ then_word t _ _ (small 5 0 (omega arith)) ∙ then_word u _ _ (small 6 0 (omega arith)) ∙ then_word v _ _ (small 7 0 (omega arith))

pub regs_read : (regs : List ℕ) → length regs ≡ 8 → All (λ n. n < 2 ^ 32) regs → regs_of (words_of regs []) ≡ Some regs
regs_read regs long small =
    let e = eight regs long in
    let P : List ℕ → Type 0 = λ rs. regs_of (words_of rs []) ≡ Some rs in
    let Q : List ℕ → Type 0 = λ rs. All (λ n. n < 2 ^ 32) rs in
    subst P (sym e.is) (eight_read e.a e.b e.c e.d e.s e.t e.u e.v (subst Q e.is small))

-- ---- six flags

bit_read : (b : ℕ) → b < 2 → bit_of (48 + b) ≡ Some b
bit_read zero small = refl
bit_read (suc zero) small = refl
bit_read (suc (suc b)) small = absurd (omega arith)

bits_more : (b m : ℕ) (digits : List ℕ) → b < 2 → bits_of digits ≡ Some m → bits_of ((48 + b) ∷ digits) ≡ Some (b + 2 * m)
bits_more b m digits small e = rw (bit_read b small, e) refl

pub flags_read : (n : ℕ) → n < 64 → flags_of (flag_digits n) ≡ Some n
unfolding flag_digits
flags_read n small =
    let e0 : bits_of [] ≡ Some 0 = refl in
    let e1 : bits_of ((48 + n / 32 % 2) ∷ []) ≡ Some (n / 32 % 2 + 2 * 0) = bits_more (n / 32 % 2) 0 [] (omega arith) e0 in
    let e2 : bits_of ((48 + n / 16 % 2) ∷ (48 + n / 32 % 2) ∷ []) ≡ Some (n / 16 % 2 + 2 * (n / 32 % 2 + 2 * 0)) = bits_more (n / 16 % 2) (n / 32 % 2 + 2 * 0) ((48 + n / 32 % 2) ∷ []) (omega arith) e1 in
    let e3 : bits_of ((48 + n / 8 % 2) ∷ (48 + n / 16 % 2) ∷ (48 + n / 32 % 2) ∷ []) ≡ Some (n / 8 % 2 + 2 * (n / 16 % 2 + 2 * (n / 32 % 2 + 2 * 0))) = bits_more (n / 8 % 2) (n / 16 % 2 + 2 * (n / 32 % 2 + 2 * 0)) ((48 + n / 16 % 2) ∷ (48 + n / 32 % 2) ∷ []) (omega arith) e2 in
    let e4 : bits_of ((48 + n / 4 % 2) ∷ (48 + n / 8 % 2) ∷ (48 + n / 16 % 2) ∷ (48 + n / 32 % 2) ∷ []) ≡ Some (n / 4 % 2 + 2 * (n / 8 % 2 + 2 * (n / 16 % 2 + 2 * (n / 32 % 2 + 2 * 0)))) = bits_more (n / 4 % 2) (n / 8 % 2 + 2 * (n / 16 % 2 + 2 * (n / 32 % 2 + 2 * 0))) ((48 + n / 8 % 2) ∷ (48 + n / 16 % 2) ∷ (48 + n / 32 % 2) ∷ []) (omega arith) e3 in
    let e5 : bits_of ((48 + n / 2 % 2) ∷ (48 + n / 4 % 2) ∷ (48 + n / 8 % 2) ∷ (48 + n / 16 % 2) ∷ (48 + n / 32 % 2) ∷ []) ≡ Some (n / 2 % 2 + 2 * (n / 4 % 2 + 2 * (n / 8 % 2 + 2 * (n / 16 % 2 + 2 * (n / 32 % 2 + 2 * 0))))) = bits_more (n / 2 % 2) (n / 4 % 2 + 2 * (n / 8 % 2 + 2 * (n / 16 % 2 + 2 * (n / 32 % 2 + 2 * 0)))) ((48 + n / 4 % 2) ∷ (48 + n / 8 % 2) ∷ (48 + n / 16 % 2) ∷ (48 + n / 32 % 2) ∷ []) (omega arith) e4 in
    let e6 : bits_of ((48 + n % 2) ∷ (48 + n / 2 % 2) ∷ (48 + n / 4 % 2) ∷ (48 + n / 8 % 2) ∷ (48 + n / 16 % 2) ∷ (48 + n / 32 % 2) ∷ []) ≡ Some (n % 2 + 2 * (n / 2 % 2 + 2 * (n / 4 % 2 + 2 * (n / 8 % 2 + 2 * (n / 16 % 2 + 2 * (n / 32 % 2 + 2 * 0)))))) = bits_more (n % 2) (n / 2 % 2 + 2 * (n / 4 % 2 + 2 * (n / 8 % 2 + 2 * (n / 16 % 2 + 2 * (n / 32 % 2 + 2 * 0))))) ((48 + n / 2 % 2) ∷ (48 + n / 4 % 2) ∷ (48 + n / 8 % 2) ∷ (48 + n / 16 % 2) ∷ (48 + n / 32 % 2) ∷ []) (omega arith) e5 in
    let same : (n % 2 + 2 * (n / 2 % 2 + 2 * (n / 4 % 2 + 2 * (n / 8 % 2 + 2 * (n / 16 % 2 + 2 * (n / 32 % 2 + 2 * 0)))))) ≡ n = omega arith in
    e6 ∙ ap Some same

pub six_flags_read : (n : ℕ) → n < 64 → six_flags_of (flag_digits n ∷ []) ≡ Some n
unfolding six_flags_of
six_flags_read n small = then_given flags_of (flag_digits n) [] n _ (flags_read n small)

-- ---- fills

pub fill_read : (f : Fill) → IsFill f → fill_of (hex8 f.at ∷ hex_text f.bytes ∷ []) ≡ Some f
unfolding fill_of
fill_read f is =
    let fits : fits_fill f.bytes ≡ true = (let some : 0 < length f.bytes = is.some in let most : length f.bytes ≤ 1024 = is.most in grind (arith, nat_tests)) in
    let bytes : fill_bytes_of (hex_text f.bytes) ≡ Some f.bytes = rw (bytes_read f.bytes is.bytes, fits) refl in
    then_word f.at _ _ is.at ∙ then_given fill_bytes_of (hex_text f.bytes) [] f.bytes _ bytes

-- ---- choices, without their fills, and steps

abbrev pub bare : Choice → Choice
bare c = record c { fill = [] }

abbrev pub choice_fields_of : Choice → List (List ℕ)
choice_fields_of c = hex2 c.flags ∷ words_of (c.eax ∷ c.ecx ∷ c.edx ∷ c.base ∷ []) (bool_text c.fails ∷ [])

pub choice_read : (c : Choice) → IsChoice c → choice_of (choice_fields_of c) ≡ Some (bare c)
unfolding choice_of
choice_read c is =
    then_given byte_of (hex2 c.flags) _ c.flags _ (byte_read c.flags is.flags) ∙ then_word c.eax _ _ is.eax ∙ then_word c.ecx _ _ is.ecx ∙ then_word c.edx _ _ is.edx
    ∙ then_word c.base _ _ is.base ∙ then_given bool_of (bool_text c.fails) [] c.fails _ (bool_read c.fails)

pub step_read : (s : RunStep) → IsStep s → step_of (words_of (s.from ∷ s.to ∷ []) (choice_fields_of s.choice)) ≡ Some (record s { choice = bare s.choice })
unfolding step_of
step_read s is = then_word s.from _ _ is.from ∙ then_word s.to _ _ is.to ∙ ap (option_map (λ (c : Choice). record { from = s.from; to = s.to; choice = c })) (choice_read s.choice is.choice)

pub end_read : (end : EndWord) → ending_of (end_word end ∷ []) ≡ Some end
unfolding ending_of then_field
end_read ends.Steps = refl
end_read ends.Exited = refl
end_read ends.Faulted = refl
end_read ends.NotListed = refl
end_read ends.NoStub = refl
end_read ends.BadChoice = refl

pub end_plain : (end : EndWord) → IsPlain (end_word end)
end_plain ends.Steps = plain_is (end_word ends.Steps) refl
end_plain ends.Exited = plain_is (end_word ends.Exited) refl
end_plain ends.Faulted = plain_is (end_word ends.Faulted) refl
end_plain ends.NotListed = plain_is (end_word ends.NotListed) refl
end_plain ends.NoStub = plain_is (end_word ends.NoStub) refl
end_plain ends.BadChoice = plain_is (end_word ends.BadChoice) refl

-- Texts without a space or the end of a line: fields, and the texts of instructions, which have spaces but stay in their line.
use Rattle.std.proofs.Common.{◌≡◌, ℕ, zero, suc, ◌+◌, ◌<◌, ◌≤◌, ◌/◌, ◌%◌, ◌^◌, ◌==◌, Bool, true, false, List, [], ◌∷◌, ◌++◌, length, Option, None, Some, refl, sym, ◌∙◌, ap, arith, nat_lt, nat_le}
use Rattle.std.specs.Prelude.{codes, is_some, not, ◌&&◌, ◌||◌, slice_index_or, if◌then◌else◌}
use Rattle.std.specs.List.{list_all}
use Rattle.std.proofs.lemmas.Bool.Decides.{nat_tests}
use Rattle.std.proofs.lemmas.List.Folds.{list_all-append}
use Rattle.bit_words.specs.declared.width.Width.{Width}
use Rattle.bit_words.specs.declared.width.Width.TheVariants.{B8, B16, B32}
use Rattle.memory_map.specs.Name.{is_name, is_name_byte}
use Rattle.text_fields.specs.Hex.{hex_digits, hex8}
use Rattle.x86_syntax.specs.declared.instr.Address.{Address}
use Rattle.x86_syntax.specs.declared.instr.Cond.{Cond}
use Rattle.x86_syntax.specs.declared.instr.Seg.{Seg}
use Rattle.x86_syntax.specs.declared.instr.Seg.TheVariants.{Plain, Fs, Gs}
use Rattle.x86_syntax.specs.declared.instr.Repeat.{Repeat}
use Rattle.x86_syntax.specs.declared.instr.Repeat.TheVariants.{Once, Rep, Repe, Repne}
use Rattle.x86_syntax.specs.declared.instr.Mnemonic.{Mnemonic}
use Rattle.x86_syntax.specs.declared.instr.Mnemonic.TheVariants as m
use Rattle.x86_syntax.specs.declared.instr.Operand.{Operand}
use Rattle.x86_syntax.specs.declared.instr.Operand.TheVariants.{Register, Number, Memory, Offset}
use Rattle.x86_syntax.specs.declared.instr.Instr.{Instr}
use Rattle.x86_syntax.specs.Spelling.{spelled}
use Rattle.x86_syntax.specs.Text.{address_text, base_text, digits_of, displacement_text, ending_text, endings, has_size, head_text, index_text, instr_text, lock_text, mnemonic_text, next_address, operand_text, operands_text, plus, register_text, registers, repeat_text, segment_text, separator, size_text, sized_text, stem_text, string_segment_text, suffix_text, width_letter}
use Rattle.flow_log.specs.declared.cause.Cause.{Cause}
use Rattle.flow_log.specs.declared.cause.Cause.TheVariants as causes
use Rattle.automaton_text.specs.Text.{cause_text, code_text, text_at}
use Rattle.std.proofs.lemmas.Bool.{and_parts, and_from}
use Rattle.text_fields.proofs.PlainTexts.{is_plain, plain_digits, plain_word}

-- ---- plain fields

name_byte_above : (b : ℕ) → is_name_byte b ≡ true → nat_lt 32 b ≡ true
name_byte_above b e = grind (arith, nat_tests)

plain_name_bytes : (bs : List ℕ) → list_all is_name_byte bs ≡ true → is_plain bs ≡ true
plain_name_bytes [] e = refl
plain_name_bytes (b ∷ bs) e =
    let parts : (is_name_byte b ≡ true) × (list_all is_name_byte bs ≡ true) = and_parts (is_name_byte b) (list_all is_name_byte bs) e in
    and_from (nat_lt 32 b) (is_plain bs) (name_byte_above b parts.0) (plain_name_bytes bs parts.1)

pub plain_name : (name : List ℕ) → is_name name ≡ true → is_plain name ≡ true
plain_name name e = plain_name_bytes name (and_parts (nat_le 1 (length name) && nat_le (length name) 4096) (list_all is_name_byte name) e).1

pub plain_cause : (c : Cause) → is_plain (cause_text c) ≡ true
plain_cause causes.Bytes = refl
plain_cause _ = refl

-- ---- texts within one line

abbrev pub is_clear : List ℕ → Bool
is_clear text = list_all (λ b. not (b == 10)) text

pub clear_both : (a b : List ℕ) → is_clear a ≡ true → is_clear b ≡ true → is_clear (a ++ b) ≡ true
clear_both a b e f = list_all-append (λ b. not (b == 10)) a b ∙ and_from (is_clear a) (is_clear b) e f

plain_byte_clear : (b : ℕ) → nat_lt 32 b ≡ true → not (b == 10) ≡ true
plain_byte_clear b e = grind (arith, nat_tests)

pub plain_clear : (a : List ℕ) → is_plain a ≡ true → is_clear a ≡ true
plain_clear [] e = refl
plain_clear (b ∷ bs) e =
    let parts : (nat_lt 32 b ≡ true) × (is_plain bs ≡ true) = and_parts (nat_lt 32 b) (is_plain bs) e in
    and_from (not (b == 10)) (is_clear bs) (plain_byte_clear b parts.0) (plain_clear bs parts.1)

clear_at : (texts : List (List ℕ)) (n : ℕ) → list_all is_clear texts ≡ true → is_clear (slice_index_or texts n []) ≡ true
clear_at [] n e = refl
clear_at (x ∷ xs) zero e = (and_parts (is_clear x) (list_all is_clear xs) e).0
clear_at (x ∷ xs) (suc n) e = clear_at xs n (and_parts (is_clear x) (list_all is_clear xs) e).1

clear_digits : (k n : ℕ) → is_clear (hex_digits k n) ≡ true
clear_digits k n = plain_clear (hex_digits k n) (plain_digits k n)

pub clear_word : (n : ℕ) → is_clear (hex8 n) ≡ true
clear_word n = plain_clear (hex8 n) (plain_word n)

clear_stem : (name : Mnemonic) → is_clear (stem_text name) ≡ true
unfolding stem_text
clear_stem m.Add = refl
clear_stem _ = refl

clear_ending : (c : Cond) → is_clear (ending_text c) ≡ true
unfolding ending_text
clear_ending c = clear_at endings c.0 refl

clear_letter : (w : Width) → is_clear (width_letter w) ≡ true
clear_letter B8 = refl
clear_letter B16 = refl
clear_letter B32 = refl

clear_suffix : (name : Mnemonic) (w : Width) → is_clear (suffix_text name w) ≡ true
clear_suffix (m.J c) w = clear_ending c
clear_suffix (m.Set c) w = clear_ending c
clear_suffix (m.Cmov c) w = clear_ending c
clear_suffix m.Movs w = clear_letter w
clear_suffix m.Cmps w = clear_letter w
clear_suffix m.Stos w = clear_letter w
clear_suffix m.Lods w = clear_letter w
clear_suffix m.Scas w = clear_letter w
clear_suffix _ w = refl

clear_mnemonic : (name : Mnemonic) (w : Width) → is_clear (mnemonic_text name w) ≡ true
clear_mnemonic name w = clear_both (stem_text name) (suffix_text name w) (clear_stem name) (clear_suffix name w)

clear_lock : (b : Bool) → is_clear (lock_text b) ≡ true
clear_lock true = refl
clear_lock false = refl

clear_repeat : (r : Repeat) → is_clear (repeat_text r) ≡ true
clear_repeat Once = refl
clear_repeat Rep = refl
clear_repeat Repe = refl
clear_repeat Repne = refl

clear_string_segment : (s : Seg) → is_clear (string_segment_text s) ≡ true
clear_string_segment Plain = refl
clear_string_segment Fs = refl
clear_string_segment Gs = refl

clear_segment : (s : Seg) → is_clear (segment_text s) ≡ true
clear_segment Plain = refl
clear_segment Fs = refl
clear_segment Gs = refl

clear_register : (w : Width) (r : ℕ) → is_clear (register_text w r) ≡ true
unfolding register_text
clear_register B8 r = clear_at (registers B8) r refl
clear_register B16 r = clear_at (registers B16) r refl
clear_register B32 r = clear_at (registers B32) r refl

clear_plus : (b : Bool) → is_clear (plus b) ≡ true
clear_plus true = refl
clear_plus false = refl

clear_base : (base : Option ℕ) → is_clear (base_text base) ≡ true
clear_base None = refl
clear_base (Some r) = clear_register B32 r

clear_index : (behind : Bool) (index : Option (ℕ × ℕ)) → is_clear (index_text behind index) ≡ true
clear_index behind None = refl
clear_index behind (Some part) =
    clear_both (plus behind ++ register_text B32 part.0 ++ codes "*") (hex_digits 1 part.1)
    (clear_both (plus behind ++ register_text B32 part.0) (codes "*") (clear_both (plus behind) (register_text B32 part.0) (clear_plus behind) (clear_register B32 part.0)) refl)
    (clear_digits 1 part.1)

clear_displacement : (behind : Bool) (disp : ℕ) → is_clear (displacement_text behind disp) ≡ true
clear_displacement behind disp = by_test ((disp == 0) && behind)
  where
    by_test : (t : Bool) → is_clear (if t then [] else plus behind ++ hex8 disp) ≡ true
    by_test true = refl
    by_test false = clear_both (plus behind) (hex8 disp) (clear_plus behind) (clear_word disp)

clear_address : (a : Address) → is_clear (address_text a) ≡ true
unfolding address_text
clear_address a =
    let s = segment_text a.seg in
    let b = base_text a.base in
    let i = index_text (is_some a.base) a.index in
    let d = displacement_text (is_some a.base || is_some a.index) a.disp in
    clear_both (s ++ codes "[" ++ b ++ i ++ d) (codes "]")
    (clear_both (s ++ codes "[" ++ b ++ i) d
    (clear_both (s ++ codes "[" ++ b) i
    (clear_both (s ++ codes "[") b (clear_both s (codes "[") (clear_segment a.seg) refl) (clear_base a.base)) (clear_index (is_some a.base) a.index))
    (clear_displacement (is_some a.base || is_some a.index) a.disp)) refl

clear_sized : (sized : Bool) (w : Width) → is_clear (sized_text sized w) ≡ true
clear_sized true B8 = refl
clear_sized true B16 = refl
clear_sized true B32 = refl
clear_sized false w = refl

clear_operand : (sized : Bool) (next : ℕ) (op : Operand) → is_clear (operand_text sized next op) ≡ true
unfolding operand_text
clear_operand sized next (Register w r) = clear_register w r
clear_operand sized next (Number w n) = clear_digits (digits_of w) n
clear_operand sized next (Memory w a) = clear_both (sized_text sized w) (address_text a) (clear_sized sized w) (clear_address a)
clear_operand sized next (Offset offset) = clear_word _

clear_separator : (k : ℕ) → is_clear (separator k) ≡ true
clear_separator k = by_test (k == 0)
  where
    by_test : (t : Bool) → is_clear (if t then codes " " else codes ", ") ≡ true
    by_test true = refl
    by_test false = refl

clear_operands : (sized : Bool) (next k : ℕ) (ops : List Operand) → is_clear (operands_text sized next k ops) ≡ true
unfolding operands_text
clear_operands sized next k [] = refl
clear_operands sized next k (op ∷ ops) =
    clear_both (separator k ++ operand_text sized next op) (operands_text sized next (k + 1) ops)
    (clear_both (separator k) (operand_text sized next op) (clear_separator k) (clear_operand sized next op)) (clear_operands sized next (k + 1) ops)

clear_head : (i : Instr) → is_clear (head_text i) ≡ true
clear_head i =
    clear_both (lock_text i.lock ++ repeat_text i.repeat ++ mnemonic_text i.name i.w) (string_segment_text i.seg)
    (clear_both (lock_text i.lock ++ repeat_text i.repeat) (mnemonic_text i.name i.w) (clear_both (lock_text i.lock) (repeat_text i.repeat) (clear_lock i.lock) (clear_repeat i.repeat)) (clear_mnemonic i.name i.w))
    (clear_string_segment i.seg)

-- the text of an instruction stays in its line
clear_instr : (at : ℕ) (i : Instr) (len : ℕ) → is_clear (instr_text at i len) ≡ true
unfolding instr_text
clear_instr at i len = clear_both (head_text i) (operands_text (has_size i.name) (next_address at len) 0 i.ops.items) (clear_head i) (clear_operands (has_size i.name) (next_address at len) 0 i.ops.items)

pub clear_code : (from : ℕ) (bytes : List ℕ) → is_clear (code_text from bytes) ≡ true
unfolding code_text
clear_code from bytes = by_name (spelled bytes)
  where
    by_name : (s : Option Instr) → is_clear (text_at from (length bytes) s) ≡ true
    by_name None = refl
    by_name (Some i) = clear_instr from i (length bytes)

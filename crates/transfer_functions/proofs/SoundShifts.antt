-- Shifts and rotations: their expansion stands for what they do.
use Rattle.std.proofs.Common.{◌≡◌, ℕ, ◌-◌, ◌<◌, ◌/◌, ◌%◌, ◌^◌, Bool, true, false, ◌==◌, cond, List, Option, Some, None, refl, sym, ◌∙◌, ap, subst, arith, inl, inr}
use Rattle.std.specs.Prelude.{nat_lt, if◌then◌else◌, ℤ, pos, negsuc}
use Rattle.std.specs.Prelude.{◌⊎◌}
use Rattle.std.specs.Int.Bits.{or_zero_r}
use Rattle.std.proofs.lemmas.Bool.{and_parts, eqb-true}
use Rattle.address_regions.specs.Places.{Places}
use Rattle.bit_words.specs.declared.width.Width.{Width}
use Rattle.bit_words.specs.declared.width.Width.TheVariants.{B8, B16, B32}
use Rattle.bit_words.specs.declared.op.Op.{Op}
use Rattle.bit_words.specs.declared.op.Op.TheVariants.{Or, Shl, Shr, Sar, Rol, Ror, Low8, High8, PutLow8, PutHigh8}
use Rattle.bit_words.specs.Width.{bits_of, cut, signed_of, word_of}
use Rattle.bit_words.specs.Operators.{apply_op, formula, shifted_down}
use Rattle.bit_words.proofs.Laws.{apply-lt, cut-cut, cut-lt, cut_fit, put_low8-low8, put_high8-high8, put_low16-low16}
use Rattle.bit_words.proofs.SignedLaws.{word_of-signed_of}
use Rattle.domain_laws.specs.Laws.{Values, IsLawful}
use Rattle.memory_map.specs.declared.choice.Choice.{Choice}
use Rattle.memory_map.specs.declared.registers.Regs.{Regs}
use Rattle.memory_map.specs.Image.{Image}
use Rattle.memory_map.specs.Registers.{register, with_register}
use Rattle.memory_map.specs.State.{MachineState, Flags}
use Rattle.partitioned_memory.specs.declared.fact.Counted.{Counted}
use Rattle.x86_syntax.specs.declared.instr.Operand.{Operand}
use Rattle.x86_syntax.specs.declared.instr.Operand.TheVariants.{Register, Number, Memory, Offset}
use Rattle.x86_semantics.specs.declared.flag_rule.FlagRule.{FlagRule}
use Rattle.x86_semantics.specs.Operands.{Ended, Next, at_address, with_flags as with_flags_of, writing as writing_of}
use Rattle.x86_semantics.specs.Registers.{byte_part, put_byte_part, part as part_of, with_part as with_part_of, register as register_of, with_register as with_register_of}
use Rattle.x86_semantics.specs.Shifts.{double_flags, double_result, double_shift as double_shift_of, double_shift_by as double_shift_by_of, or_of_shifts as shifts_of, shift as shift_of, shift_by as shift_by_of, shifted_flags}
use Rattle.x86_semantics.specs.Widths.{has_place, is_count, is_place, is_value, is_width, width_of}
use Rattle.abstract_state.specs.Expanding.{Expanded, Path, lands}
use Rattle.abstract_state.specs.Flags.{FlagsStand}
use Rattle.abstract_state.specs.State.{with_flags}
use Rattle.abstract_state.proofs.Bridge.{any_known, number_known}
use Rattle.transfer_functions.specs.Arithmetic.{flagged}
use Rattle.transfer_functions.specs.Flags.{ruled_truths}
use Rattle.transfer_functions.specs.Shifts.{double_shift, double_shift_by, double_shifted, double_truths, is_no_shift, or_of_shifts, shift, shift_by, shifted, unshifted}
use Rattle.transfer_functions.specs.Values.{on_state, writing}
use Rattle.transfer_functions.proofs.FlagsSound.{counted_stand, double_stand, is_counted, is_double}
use Rattle.transfer_functions.proofs.Steps.{S, H, E, IsRead, eval_stands, lands_ends, part_stands, reading_ends, register_stands, with_flags_holds, writing_ends}
use Rattle.transfer_functions.proofs.SoundArithmetic.{place_is_value, same_width}
use Rattle.transfer_functions.proofs.Words.{count_fits}

-- ---- by a count of 0

-- the operators of shifts and rotations
abbrev pub is_shift : Op → Bool
is_shift Shl = true
is_shift Shr = true
is_shift Sar = true
is_shift Rol = true
is_shift Ror = true
is_shift op = false

sar_word : (w : Width) (z : ℤ) → word_of w (shifted_down z 0) ≡ word_of w z
sar_word w (pos n) = let e : n / 2 ^ 0 ≡ n = omega arith in ap (λ k. k % 2 ^ bits_of w) e
sar_word w (negsuc n) = let e : n / 2 ^ 0 ≡ n = omega arith in ap (λ k. 2 ^ bits_of w - 1 - k % 2 ^ bits_of w) e

sar_zero : (w : Width) (x : ℕ) → x < 2 ^ bits_of w → apply_op Sar w x 0 ≡ x
unfolding apply_op formula
sar_zero B8 x less = sar_word B8 (signed_of B8 (cut B8 x)) ∙ word_of-signed_of B8 (cut B8 x) ∙ cut-cut B8 x ∙ cut_fit B8 x less
sar_zero B16 x less = sar_word B16 (signed_of B16 (cut B16 x)) ∙ word_of-signed_of B16 (cut B16 x) ∙ cut-cut B16 x ∙ cut_fit B16 x less
sar_zero B32 x less = sar_word B32 (signed_of B32 (cut B32 x)) ∙ word_of-signed_of B32 (cut B32 x) ∙ cut-cut B32 x ∙ cut_fit B32 x less

-- nothing is shifted
unmoved : (op : Op) (w : Width) (x : ℕ) → is_shift op ≡ true → x < 2 ^ bits_of w → apply_op op w x 0 ≡ x
unfolding apply_op formula
unmoved Shl B8 x e less = omega arith
unmoved Shl B16 x e less = omega arith
unmoved Shl B32 x e less = omega arith
unmoved Shr B8 x e less = omega arith
unmoved Shr B16 x e less = omega arith
unmoved Shr B32 x e less = omega arith
unmoved Sar w x e less = sar_zero w x less
unmoved Rol B8 x e less = omega arith
unmoved Rol B16 x e less = omega arith
unmoved Rol B32 x e less = omega arith
unmoved Ror B8 x e less = omega arith
unmoved Ror B16 x e less = omega arith
unmoved Ror B32 x e less = omega arith
unmoved op w x e less = cc

-- the operators of SHLD and SHRD
abbrev pub IsJoining : Op → Op → Type 0
IsJoining op other = ((op ≡ Shl) × (other ≡ Shr)) ⊎ ((op ≡ Shr) × (other ≡ Shl))

-- by the width nothing is left
gone_right : (w : Width) (y : ℕ) → apply_op Shr w y (bits_of w - 0) ≡ 0
unfolding apply_op formula
gone_right B8 y = omega arith
gone_right B16 y = omega arith
gone_right B32 y = omega arith

gone_left : (w : Width) (y : ℕ) → apply_op Shl w y (bits_of w - 0) ≡ 0
unfolding apply_op formula
gone_left B8 y = omega arith
gone_left B16 y = omega arith
gone_left B32 y = omega arith

or_none : (w : Width) (x : ℕ) → x < 2 ^ bits_of w → apply_op Or w x 0 ≡ x
unfolding apply_op formula
or_none B8 x less = or_zero_r (cut B8 x) ∙ cut_fit B8 x less
or_none B16 x less = or_zero_r (cut B16 x) ∙ cut_fit B16 x less
or_none B32 x less = or_zero_r (cut B32 x) ∙ cut_fit B32 x less

shifts_of_none : (op other : Op) (w : Width) (x y : ℕ) → IsJoining op other → x < 2 ^ bits_of w → shifts_of op other w x y 0 ≡ x
shifts_of_none op other w x y own less = elim own [
  | inl e ↦
      ap (λ o. shifts_of o other w x y 0) e.0 ∙ ap (λ o. shifts_of Shl o w x y 0) e.1
      ∙ ap (λ k. apply_op Or w (apply_op Shl w x 0) k) (gone_right w y) ∙ ap (λ k. apply_op Or w k 0) (unmoved Shl w x refl less) ∙ or_none w x less
  | inr e ↦
      ap (λ o. shifts_of o other w x y 0) e.0 ∙ ap (λ o. shifts_of Shr o w x y 0) e.1
      ∙ ap (λ k. apply_op Or w (apply_op Shr w x 0) k) (gone_left w y) ∙ ap (λ k. apply_op Or w k 0) (unmoved Shr w x refl less) ∙ or_none w x less
]

some_width : (w : Width) → nat_lt 0 (bits_of w) ≡ true
some_width B8 = refl
some_width B16 = refl
some_width B32 = refl

-- SHLD and SHRD by 0 give their operand
none_doubled : (op other : Op) (w : Width) (x y : ℕ) (choice : Choice) → IsJoining op other → x < 2 ^ bits_of w → double_result op other w x y 0 choice ≡ x
none_doubled op other w x y choice own less = ap (λ b. cond b (shifts_of op other w x y 0) (cut w choice.eax)) (some_width w) ∙ shifts_of_none op other w x y own less

pub rest_fits : (w : Width) (n : ℕ) → bits_of w - n < 2 ^ bits_of w
rest_fits B8 n = omega arith
rest_fits B16 n = omega arith
rest_fits B32 n = omega arith

-- ---- a register that is written with what it has

itself : {V : Type 0} (g : Regs V) (r k : ℕ) (v : V) → register g k ≡ v → cond (r == k) (register g r) v ≡ v
itself g r k v e =
    elim (r == k) as (λ b. (r == k) ≡ b → cond b (register g r) v ≡ v) [
      | true ↦ λ same. ap (register g) (eqb-true r k same) ∙ e
      | false ↦ λ other. refl
    ] refl

same_registers : {V : Type 0} (g h : Regs V) → g.eax ≡ h.eax → g.ecx ≡ h.ecx → g.edx ≡ h.edx → g.ebx ≡ h.ebx → g.esp ≡ h.esp → g.ebp ≡ h.ebp → g.esi ≡ h.esi → g.edi ≡ h.edi → g ≡ h
same_registers {V} g h eax ecx edx ebx esp ebp esi edi =
    ap (λ (v : V). record g { eax = v }) eax ∙ ap (λ (v : V). record g { eax = h.eax; ecx = v }) ecx ∙ ap (λ (v : V). record g { eax = h.eax; ecx = h.ecx; edx = v }) edx
    ∙ ap (λ (v : V). record g { eax = h.eax; ecx = h.ecx; edx = h.edx; ebx = v }) ebx ∙ ap (λ (v : V). record h { esp = v; ebp = g.ebp; esi = g.esi; edi = g.edi }) esp
    ∙ ap (λ (v : V). record h { ebp = v; esi = g.esi; edi = g.edi }) ebp ∙ ap (λ (v : V). record h { esi = v; edi = g.edi }) esi ∙ ap (λ (v : V). record h { edi = v }) edi

register_itself : (g : Regs ℕ) (r : ℕ) → with_register g r (register g r) ≡ g
unfolding with_register
register_itself g r =
    same_registers _ g (itself g r 0 g.eax (unfold register in refl)) (itself g r 1 g.ecx (unfold register in refl)) (itself g r 2 g.edx (unfold register in refl)) (itself g r 3 g.ebx (unfold register in refl))
    (itself g r 4 g.esp (unfold register in refl)) (itself g r 5 g.ebp (unfold register in refl)) (itself g r 6 g.esi (unfold register in refl)) (itself g r 7 g.edi (unfold register in refl))

written_itself : (m : MachineState) (r v : ℕ) → v ≡ register_of r m → with_register_of r v m ≡ m
unfolding register_of with_register_of
written_itself m r v e =
    ap (λ n. record m { registers = with_register m.registers (r % 8) n }) e ∙ ap (λ g. record m { registers = g }) (register_itself m.registers (r % 8))

byte_itself : (r a : ℕ) → a < 2 ^ 32 → apply_op (put_byte_part r) B32 a (apply_op (byte_part r) B32 a 0) ≡ a
byte_itself r a less =
    elim (nat_lt r 4) as (λ b. apply_op (if b then PutLow8 else PutHigh8) B32 a (apply_op (if b then Low8 else High8) B32 a 0) ≡ a) [
      | true ↦ put_low8-low8 a ∙ cut_fit B32 a less
      | false ↦ put_high8-high8 a ∙ cut_fit B32 a less
    ]

pub part_itself : (w : Width) (r : ℕ) (m : MachineState) → ((k : ℕ) → register_of k m < 2 ^ 32) → with_part_of w r (part_of w r m) m ≡ m
part_itself B8 r m fits = written_itself m (r % 4) _ (byte_itself r (register_of (r % 4) m) (fits (r % 4)))
part_itself B16 r m fits = written_itself m r _ (put_low16-low16 (register_of r m) ∙ cut_fit B32 (register_of r m) (fits r))
part_itself B32 r m fits = written_itself m r _ refl

-- a count is a byte
pub count_is_value : (o : Operand) → is_count o ≡ true → is_value o ≡ true
count_is_value (Register B8 r) e = refl
count_is_value (Register B16 r) e = cc
count_is_value (Register B32 r) e = cc
count_is_value (Number B8 n) e = refl
count_is_value (Number B16 n) e = cc
count_is_value (Number B32 n) e = cc
count_is_value (Memory w a) e = cc
count_is_value (Offset o) e = cc

count_width : (o : Operand) → is_count o ≡ true → width_of o ≡ B8
count_width (Register B8 r) e = refl
count_width (Register B16 r) e = cc
count_width (Register B32 r) e = cc
count_width (Number B8 n) e = refl
count_width (Number B16 n) e = cc
count_width (Number B32 n) e = cc
count_width (Memory w a) e = cc
count_width (Offset o) e = cc

module _ {D : Type 0} (d : Values D) (l : IsLawful d) (image : Image) (p : Places) (blocks : List Counted) where
  -- the flags of a count of 0 stay
  abbrev stays : ℕ → MachineState → Ended
  stays next n = Next (at_address next (with_flags_of n.flags n))

  unshifted_ends : (w : Width) (to : Operand) (a : D) (x next : ℕ) (q : Path D) (m : MachineState) → next < 2 ^ 32 → has_place w to ≡ true
      → S d l image p blocks w a x → IsRead d l image p blocks to m x → H d l image p blocks q m
      → E d l image p blocks (unshifted d image to a next q) (writing_of m to x (stays next))
  unshifted_ends w (Register z r) a x next q m less place s read h =
      let P : MachineState → Type 0 = λ n. E d l image p blocks (lands next q) (Next (at_address next n)) in
      let same = ap (λ v. with_part_of z r v m) read ∙ part_itself z r m (λ k. (register_stands d l image p blocks k q m h).fits) in
      subst P (sym same) (lands_ends d l image p blocks next q m less h)
  unshifted_ends w (Memory z b) a x next q m less place s read h =
      let parts = and_parts true (is_width z w) place in
      writing_ends d l image p blocks (Memory z b) a x q m _ _ refl (subst (λ v. S d l image p blocks v a x) (sym (same_width z w place)) s) h
      (λ r n holds same. lands_ends d l image p blocks next r n less holds)
  unshifted_ends w (Number z n) a x next q m less place s read h = cc
  unshifted_ends w (Offset o) a x next q m less place s read h = cc

  -- by a value that stands for y
  shifted_stands : (op : Op) (w : Width) (a : D) (x : ℕ) (o : Option ℕ) (y : ℕ) (q : Path D) (m : MachineState) → ((n : ℕ) → o ≡ Some n → y ≡ n) → S d l image p blocks w a x → H d l image p blocks q m
      → S d l image p blocks w (shifted d image.align op w a o) (apply_op op w x (y % 32))
  shifted_stands op w a x None y q m tells s h = any_known d l image p blocks w _ q m h (apply-lt op w x (y % 32))
  shifted_stands op w a x (Some n) y q m tells s h =
      subst (λ k. S d l image p blocks w (d.eval op w a (d.number (n % 32)) image.align) (apply_op op w x (k % 32))) (sym (tells n refl))
      (eval_stands d l image p blocks op w a _ x (n % 32) q m h s (number_known d l image p blocks w (n % 32) q m h (count_fits w n)))

  -- a count that is 0 modulo 32 is known
  none_shifted : (o : Option ℕ) (y : ℕ) → ((n : ℕ) → o ≡ Some n → y ≡ n) → is_no_shift o ≡ true → y % 32 ≡ 0
  none_shifted None y tells e = cc
  none_shifted (Some n) y tells e = ap (λ k. k % 32) (tells n refl) ∙ eqb-true (n % 32) 0 e

  flags_stand : (rule : FlagRule) (w : Width) (a b r : D) (x y z : ℕ) (q : Path D) (m : MachineState) (f : Flags) (choice : Choice) → is_counted rule ≡ true
      → S d l image p blocks w a x → S d l image p blocks B8 b y → S d l image p blocks w r z → H d l image p blocks q m
      → FlagsStand (ruled_truths d image.align rule w a b r q.state.flags) (shifted_flags rule w x (y % 32) z choice m.flags)
  flags_stand rule w a b r x y z q m f choice is s t value h =
      let fits = h.describes.fits in
      let P : ℕ → Type 0 = λ k. FlagsStand (ruled_truths d k rule w a b r q.state.flags) (shifted_flags rule w x (y % 32) z choice m.flags) in
      subst P fits.align (counted_stand d l p fits.valid rule w a b r x y z q.state.flags m.flags choice is s.stands t.stands (record { stands = value.stands; fits = value.fits }) h.describes.flags)

  shift_by_ends : (op : Op) (rule : FlagRule) (w : Width) (to : Operand) (a v : D) (x y next : ℕ) (choice : Choice) (q : Path D) (m : MachineState) → next < 2 ^ 32
      → is_shift op ≡ true → is_counted rule ≡ true → has_place w to ≡ true → S d l image p blocks w a x → IsRead d l image p blocks to m x → S d l image p blocks B8 v y → H d l image p blocks q m
      → E d l image p blocks (shift_by d image op rule w to a v next q) (shift_by_of op rule w to x (y % 32) next choice m)
  shift_by_ends op rule w to a v x y next choice q m less shifts counts place s read count h =
      let tells = λ (n : ℕ) (e : d.number_of v ≡ Some n). l.number_of_alone v n p y h.describes.fits.valid e count.stands in
      let moved : Expanded D = writing d image q to (shifted d image.align op w a (d.number_of v)) (λ r. flagged d image rule w a v (shifted d image.align op w a (d.number_of v)) next r) in
      elim (is_no_shift (d.number_of v)) as (λ b. is_no_shift (d.number_of v) ≡ b → E d l image p blocks (cond b (unshifted d image to a next q) moved) (shift_by_of op rule w to x (y % 32) next choice m)) [
        | true ↦ λ e.
            let P : ℕ → Type 0 = λ c. E d l image p blocks (unshifted d image to a next q) (shift_by_of op rule w to x c next choice m) in
            let Q : ℕ → Type 0 = λ z. E d l image p blocks (unshifted d image to a next q) (writing_of m to z (stays next)) in
            subst P (sym (none_shifted (d.number_of v) y tells e)) (subst Q (sym (unmoved op w x shifts s.fits)) (unshifted_ends w to a x next q m less place s read h))
        | false ↦ λ e.
            let parts = and_parts (is_place to) (is_width (width_of to) w) place in
            let value = shifted_stands op w a x (d.number_of v) y q m tells s h in
            let own = subst (λ z. S d l image p blocks z (shifted d image.align op w a (d.number_of v)) (apply_op op w x (y % 32))) (sym (same_width (width_of to) w parts.1)) value in
            writing_ends d l image p blocks to _ _ q m _ _ parts.0 own h
            (λ r n holds same. lands_ends d l image p blocks next _ _ less
            (with_flags_holds d l image p blocks _ _ r n (flags_stand rule w a v _ x y (apply_op op w x (y % 32)) r n n.flags choice counts s count value holds) holds))
      ] refl

  pub shift_ends : (op : Op) (rule : FlagRule) (w : Width) (to count : Operand) (next : ℕ) (choice : Choice) (q : Path D) (m : MachineState) → next < 2 ^ 32
      → is_shift op ≡ true → is_counted rule ≡ true → has_place w to ≡ true → is_count count ≡ true → H d l image p blocks q m
      → E d l image p blocks (shift d image op rule w to count next q) (shift_of op rule w to count next choice m)
  shift_ends op rule w to count next choice q m less shifts counts place byte h =
      let parts = and_parts (is_place to) (is_width (width_of to) w) place in
      reading_ends d l image p blocks to q m _ _ (place_is_value to parts.0) h (λ a x s read.
      reading_ends d l image p blocks count q m _ _ (count_is_value count byte) h (λ v y t also.
      shift_by_ends op rule w to a v x y next choice q m less shifts counts place
      (subst (λ z. S d l image p blocks z a x) (same_width (width_of to) w parts.1) s) read (subst (λ z. S d l image p blocks z v y) (count_width count byte) t) h))

  -- ---- SHLD and SHRD

  shifts_stand : (op other : Op) (w : Width) (a b : D) (x y n : ℕ) (q : Path D) (m : MachineState) → n < 2 ^ bits_of w → S d l image p blocks w a x → S d l image p blocks w b y → H d l image p blocks q m
      → S d l image p blocks w (or_of_shifts d image.align op other w a b n) (shifts_of op other w x y n)
  shifts_stand op other w a b x y n q m less s t h =
      let rest = bits_of w - n in
      let moved = eval_stands d l image p blocks op w a (d.number n) x n q m h s (number_known d l image p blocks w n q m h less) in
      let behind = eval_stands d l image p blocks other w b (d.number rest) y rest q m h t (number_known d l image p blocks w rest q m h (rest_fits w n)) in
      eval_stands d l image p blocks Or w _ _ _ _ q m h moved behind

  result_fits : (op other : Op) (w : Width) (x y c : ℕ) (choice : Choice) (below : Bool) → cond below (shifts_of op other w x y c) (cut w choice.eax) < 2 ^ bits_of w
  result_fits op other w x y c choice true = apply-lt Or w _ _
  result_fits op other w x y c choice false = cut-lt w choice.eax

  double_stands : (op other : Op) (w : Width) (a b : D) (x y : ℕ) (o : Option ℕ) (v : ℕ) (choice : Choice) (q : Path D) (m : MachineState) → ((n : ℕ) → o ≡ Some n → v ≡ n)
      → S d l image p blocks w a x → S d l image p blocks w b y → H d l image p blocks q m
      → S d l image p blocks w (double_shifted d image.align op other w a b o) (double_result op other w x y (v % 32) choice)
  double_stands op other w a b x y None v choice q m tells s t h = any_known d l image p blocks w _ q m h (result_fits op other w x y (v % 32) choice (nat_lt (v % 32) (bits_of w)))
  double_stands op other w a b x y (Some n) v choice q m tells s t h =
      let P : ℕ → Type 0 = λ k. S d l image p blocks w (double_shifted d image.align op other w a b (Some n)) (double_result op other w x y (k % 32) choice) in
      subst P (sym (tells n refl))
      (elim (nat_lt (n % 32) (bits_of w)) as (λ z. S d l image p blocks w (cond z (or_of_shifts d image.align op other w a b (n % 32)) d.any) (cond z (shifts_of op other w x y (n % 32)) (cut w choice.eax))) [
        | true ↦ shifts_stand op other w a b x y (n % 32) q m (count_fits w n) s t h
        | false ↦ any_known d l image p blocks w (cut w choice.eax) q m h (cut-lt w choice.eax)
      ])

  double_flags_stand : (rule : FlagRule) (w : Width) (a b r : D) (x y z : ℕ) (q : Path D) (m : MachineState) (choice : Choice) → is_double rule ≡ true
      → S d l image p blocks w a x → S d l image p blocks B8 b y → S d l image p blocks w r z → H d l image p blocks q m
      → FlagsStand (double_truths d image.align rule w a b r q.state.flags) (double_flags rule w x (y % 32) z choice m.flags)
  double_flags_stand rule w a b r x y z q m choice is s t value h =
      let fits = h.describes.fits in
      let P : ℕ → Type 0 = λ k. FlagsStand (double_truths d k rule w a b r q.state.flags) (double_flags rule w x (y % 32) z choice m.flags) in
      subst P fits.align (double_stand d l p fits.valid rule w a b r x y z q.state.flags m.flags choice is s.stands t.stands (record { stands = value.stands; fits = value.fits }) h.describes.flags)

  double_by_ends : (op other : Op) (rule : FlagRule) (w : Width) (to : Operand) (a b v : D) (x z y next : ℕ) (choice : Choice) (q : Path D) (m : MachineState) → next < 2 ^ 32
      → IsJoining op other → is_double rule ≡ true → has_place w to ≡ true → S d l image p blocks w a x → IsRead d l image p blocks to m x → S d l image p blocks w b z → S d l image p blocks B8 v y → H d l image p blocks q m
      → E d l image p blocks (double_shift_by d image op other rule w to a b v next q) (double_shift_by_of rule w to x (y % 32) (double_result op other w x z (y % 32) choice) next choice m)
  double_by_ends op other rule w to a b v x z y next choice q m less joins doubles place s read behind count h =
      let tells = λ (n : ℕ) (e : d.number_of v ≡ Some n). l.number_of_alone v n p y h.describes.fits.valid e count.stands in
      let r = double_shifted d image.align op other w a b (d.number_of v) in
      let result = double_result op other w x z (y % 32) choice in
      let moved : Expanded D = writing d image q to r (λ t. lands next (on_state (λ u. with_flags (double_truths d image.align rule w a v r u.flags) u) t)) in
      elim (is_no_shift (d.number_of v)) as (λ n. is_no_shift (d.number_of v) ≡ n → E d l image p blocks (cond n (unshifted d image to a next q) moved) (double_shift_by_of rule w to x (y % 32) result next choice m)) [
        | true ↦ λ e.
            let P : ℕ → Type 0 = λ c. E d l image p blocks (unshifted d image to a next q) (double_shift_by_of rule w to x c (double_result op other w x z c choice) next choice m) in
            let Q : ℕ → Type 0 = λ k. E d l image p blocks (unshifted d image to a next q) (writing_of m to k (stays next)) in
            subst P (sym (none_shifted (d.number_of v) y tells e)) (subst Q (sym (none_doubled op other w x z choice joins s.fits)) (unshifted_ends w to a x next q m less place s read h))
        | false ↦ λ e.
            let parts = and_parts (is_place to) (is_width (width_of to) w) place in
            let value = double_stands op other w a b x z (d.number_of v) y choice q m tells s behind h in
            let own = subst (λ k. S d l image p blocks k r result) (sym (same_width (width_of to) w parts.1)) value in
            writing_ends d l image p blocks to _ _ q m _ _ parts.0 own h
            (λ t n holds same. lands_ends d l image p blocks next _ _ less
            (with_flags_holds d l image p blocks _ _ t n (double_flags_stand rule w a v r x y result t n choice doubles s count value holds) holds))
      ] refl

  pub double_shift_ends : (op other : Op) (rule : FlagRule) (w : Width) (to : Operand) (r : ℕ) (count : Operand) (next : ℕ) (choice : Choice) (q : Path D) (m : MachineState) → next < 2 ^ 32
      → IsJoining op other → is_double rule ≡ true → has_place w to ≡ true → is_count count ≡ true → H d l image p blocks q m
      → E d l image p blocks (double_shift d image op other rule w to r count next q) (double_shift_of op other rule w to r count next choice m)
  double_shift_ends op other rule w to r count next choice q m less joins doubles place byte h =
      let parts = and_parts (is_place to) (is_width (width_of to) w) place in
      let behind = part_stands d l image p blocks w r q m h in
      reading_ends d l image p blocks to q m _ _ (place_is_value to parts.0) h (λ a x s read.
      reading_ends d l image p blocks count q m _ _ (count_is_value count byte) h (λ v y t also.
      double_by_ends op other rule w to a _ v x _ y next choice q m less joins doubles place
      (subst (λ z. S d l image p blocks z a x) (same_width (width_of to) w parts.1) s) read behind (subst (λ z. S d l image p blocks z v y) (count_width count byte) t) h))

-- Values that an expansion makes of others may be held, and written where they go.
use Rattle.std.proofs.Common.{◌≡◌, ℕ, ◌<◌, ◌^◌, Bool, true, false, cond, ◌&&◌, ◌||◌, ◌⊎◌, inl, inr, Option, Some, None, refl, sym, subst, arith}
use Rattle.std.specs.Prelude.{ℤ, nat_lt, List}
use Rattle.bit_words.specs.declared.op.Op.{Op}
use Rattle.bit_words.specs.declared.width.Width.{Width}
use Rattle.bit_words.specs.declared.width.Width.TheVariants.{B8, B16, B32}
use Rattle.bit_words.specs.Width.{bits_of}
use Rattle.bit_words.specs.declared.op.Op.TheVariants.{Low8, High8, Low16}
use Rattle.bit_words.specs.Operators.{apply_op, formula}
use Rattle.bit_words.proofs.Laws.{apply-lt}
use Rattle.address_regions.specs.declared.region.Region.{Region}
use Rattle.address_regions.specs.declared.region.Region.TheVariants as regions
use Rattle.address_regions.specs.Extents.{has_one_base}
use Rattle.domain_laws.specs.declared.reach.Reach.{Reach}
use Rattle.domain_laws.specs.declared.reach.Reach.TheVariants as reaches
use Rattle.domain_laws.specs.Laws.{Values, IsLawful}
use Rattle.domain_laws.specs.Reached.{named}
use Rattle.partitioned_memory.specs.declared.fact.Counted.{Counted}
use Rattle.partitioned_memory.specs.Well.{HasCount, MayHold}
use Rattle.x86_syntax.specs.declared.instr.Address.{Address}
use Rattle.x86_syntax.specs.declared.instr.Cond.{Cond}
use Rattle.x86_syntax.specs.declared.instr.Operand.{Operand}
use Rattle.x86_syntax.specs.declared.instr.Operand.TheVariants.{Register, Number, Memory, Offset}
use Rattle.x86_semantics.specs.Registers.{byte_part}
use Rattle.x86_semantics.specs.declared.flag_rule.FlagRule.{FlagRule}
use Rattle.x86_semantics.specs.declared.operation.Operation.TheVariants as does
use Rattle.x86_semantics.specs.Widths.{fits_width, has_own_widths, has_place, has_width, is_count, is_place, is_register, is_value, is_within, is_width, width_of}
use Rattle.abstract_state.proofs.Covering.{first, rest}
use Rattle.transfer_functions.specs.Values.{MayWrite}

counted-of : (blocks : List Counted) (o p q : Option Region) → ((s : Region) → o ≡ Some s → (p ≡ Some s) ⊎ (q ≡ Some s)) → HasCount blocks p → HasCount blocks q → HasCount blocks o
counted-of blocks None p q h a b = tt
counted-of blocks (Some s) p q h a b =
    elim (h s refl) as (λ _. HasCount blocks (Some s)) [ inl e ↦ subst (HasCount blocks) e a | inr e ↦ subst (HasCount blocks) e b ]

-- a region that a value names is a block
named-block : (x : Reach) (s : Region) → named x ≡ Some s → has_one_base s ≡ false
named-block (reaches.Number low high) s e = absurd (cc)
named-block reaches.Anywhere s e = absurd (cc)
named-block (reaches.Place regions.Stack low high) s e = absurd (cc)
named-block (reaches.Place regions.Fs low high) s e = absurd (cc)
named-block (reaches.Place regions.Gs low high) s e = absurd (cc)
named-block (reaches.Place (regions.Block site size zeroed) low high) s e =
    let same : regions.Block site size zeroed ≡ s = cc in subst (λ (r : Region). has_one_base r ≡ false) same refl

wide-fits : (w : Width) (n : ℕ) → n < 2 ^ bits_of w → n < 2 ^ 32
wide-fits B8 n h = omega arith
wide-fits B16 n h = omega arith
wide-fits B32 n h = h

within-fits : (v w : Width) (n : ℕ) → is_within v w ≡ true → n < 2 ^ bits_of v → n < 2 ^ bits_of w
within-fits B8 B8 n e h = h
within-fits B8 B16 n e h = omega arith
within-fits B8 B32 n e h = omega arith
within-fits B16 B8 n e h = absurd (cc)
within-fits B16 B16 n e h = h
within-fits B16 B32 n e h = omega arith
within-fits B32 B8 n e h = absurd (cc)
within-fits B32 B16 n e h = absurd (cc)
within-fits B32 B32 n e h = h

low8-lt : (x y : ℕ) → apply_op Low8 B32 x y < 2 ^ 8
unfolding apply_op formula
low8-lt x y = omega arith

high8-lt : (x y : ℕ) → apply_op High8 B32 x y < 2 ^ 8
unfolding apply_op formula
high8-lt x y = omega arith

pub low16-lt : (x y : ℕ) → apply_op Low16 B32 x y < 2 ^ 16
unfolding apply_op formula
low16-lt x y = omega arith

byte-lt-if : (b : Bool) (x y : ℕ) → apply_op (cond b Low8 High8) B32 x y < 2 ^ 8
byte-lt-if true x y = low8-lt x y
byte-lt-if false x y = high8-lt x y

pub byte-lt : (r x y : ℕ) → apply_op (byte_part r) B32 x y < 2 ^ 8
byte-lt r x y = byte-lt-if (nat_lt r 4) x y

-- ---- the widths that operations have

pub combine-place : (op : Op) (rule : FlagRule) (w : Width) (to from : Operand) → has_own_widths (does.Combine op rule w to from) ≡ true → has_place w to ≡ true
unfolding has_own_widths
combine-place op rule w to from e = first (has_place w to) (has_width w from) e

pub carry-place : (op : Op) (rule : FlagRule) (w : Width) (to from : Operand) → has_own_widths (does.Carry op rule w to from) ≡ true → has_place w to ≡ true
unfolding has_own_widths
carry-place op rule w to from e = first (has_place w to) (has_width w from) e

pub shift-place : (op : Op) (rule : FlagRule) (w : Width) (to count : Operand) → has_own_widths (does.Shift op rule w to count) ≡ true → has_place w to ≡ true
unfolding has_own_widths
shift-place op rule w to count e = first (has_place w to) (is_count count) e

pub convert-place : (op : Op) (w : Width) (to from : Operand) (by : ℕ) → has_own_widths (does.Convert op w to from by) ≡ true → has_place w to ≡ true
unfolding has_own_widths
convert-place op w to from by e = first (has_place w to) (fits_width w from) e

pub exchange-place : (place : Operand) (w : Width) (r : ℕ) → has_own_widths (does.Exchange place w r) ≡ true → has_place w place ≡ true
unfolding has_own_widths
exchange-place place w r e = e

pub double_shift-place : (op other : Op) (rule : FlagRule) (w : Width) (to : Operand) (r : ℕ) (count : Operand) → has_own_widths (does.DoubleShift op other rule w to r count) ≡ true → has_place w to ≡ true
unfolding has_own_widths
double_shift-place op other rule w to r count e = first (has_place w to) (is_count count) e

pub compare_exchange-place : (place : Operand) (w : Width) (r : ℕ) → has_own_widths (does.CompareExchange place w r) ≡ true → has_place w place ≡ true
unfolding has_own_widths
compare_exchange-place place w r e = e

pub exchange_add-place : (place : Operand) (w : Width) (r : ℕ) → has_own_widths (does.ExchangeAdd place w r) ≡ true → has_place w place ≡ true
unfolding has_own_widths
exchange_add-place place w r e = e

pub pop-place : (to : Operand) → has_own_widths (does.Pop to) ≡ true → has_place B32 to ≡ true
unfolding has_own_widths
pop-place to e = e

pub set-place : (c : Cond) (to : Operand) → has_own_widths (does.Set c to) ≡ true → has_place B8 to ≡ true
unfolding has_own_widths
set-place c to e = e

-- a source of MOV is no wider than the destination, and one of CMOVcc as wide
pub move-within : (to from : Operand) → has_own_widths (does.Move to from) ≡ true → is_within (width_of from) (width_of to) ≡ true
unfolding has_own_widths
move-within to from e = rest (is_value from) (is_within (width_of from) (width_of to)) (rest (is_place to) (fits_width (width_of to) from) e)

pub move_if-width : (c : Cond) (to from : Operand) → has_own_widths (does.MoveIf c to from) ≡ true → is_width (width_of from) (width_of to) ≡ true
unfolding has_own_widths
move_if-width c to from e = rest (is_value from) (is_width (width_of from) (width_of to)) (rest (is_place to) (has_width (width_of to) from) e)

-- LEA writes a register
pub lea-register : (to : Operand) (a : Address) → has_own_widths (does.Lea to a) ≡ true → is_register to ≡ true
unfolding has_own_widths
lea-register to a e = first (is_register to) (has_place B16 to || has_place B32 to) e

module _ {D : Type 0} (d : Values D) (blocks : List Counted) where
  -- what may be held at a width may be held at a wider one
  pub holds-within : (v w : Width) (x : D) → is_within v w ≡ true → MayHold d blocks v x → MayHold d blocks w x
  holds-within v w x e h = record { fits = λ n is. within-fits v w n e (h.fits n is); counted = h.counted }

  pub holds-word : (w : Width) (x : D) → MayHold d blocks w x → MayHold d blocks B32 x
  holds-word w x h = record { fits = λ n is. wide-fits w n (h.fits n is); counted = h.counted }

  pub write-register : (o : Operand) (x : D) → is_register o ≡ true → MayHold d blocks B32 x → MayWrite d blocks o x
  write-register (Register w r) x e h = h
  write-register (Number w n) x e h = tt
  write-register (Memory w a) x e h = absurd (cc)
  write-register (Offset o) x e h = tt

  -- what may be held at an operand's width may be written there
  pub write-own : (o : Operand) (x : D) → MayHold d blocks (width_of o) x → MayWrite d blocks o x
  write-own (Register w r) x h = holds-word w x h
  write-own (Number w n) x h = tt
  write-own (Memory w a) x h = h
  write-own (Offset o) x h = tt

  -- what may be held at a width may be written to a place of that width
  width-holds : (v w : Width) (x : D) → is_width v w ≡ true → MayHold d blocks w x → MayHold d blocks v x
  width-holds B8 B8 x e h = h
  width-holds B8 B16 x e h = absurd (cc)
  width-holds B8 B32 x e h = absurd (cc)
  width-holds B16 B8 x e h = absurd (cc)
  width-holds B16 B16 x e h = h
  width-holds B16 B32 x e h = absurd (cc)
  width-holds B32 B8 x e h = absurd (cc)
  width-holds B32 B16 x e h = absurd (cc)
  width-holds B32 B32 x e h = h

  pub write-place : (w : Width) (o : Operand) (x : D) → has_place w o ≡ true → MayHold d blocks w x → MayWrite d blocks o x
  write-place w (Register v r) x e h = holds-word w x h
  write-place w (Number v n) x e h = tt
  write-place w (Memory v a) x e h = width-holds v w x e h
  write-place w (Offset o) x e h = tt

  -- what was read of a source may be written to a destination that is no narrower
  pub write-within : (v : Width) (to : Operand) (x : D) → is_within v (width_of to) ≡ true → MayHold d blocks v x → MayWrite d blocks to x
  write-within v to x e h = write-own to x (holds-within v (width_of to) x e h)

  width-within : (v w : Width) → is_width v w ≡ true → is_within v w ≡ true
  width-within B8 B8 e = refl
  width-within B8 B16 e = refl
  width-within B8 B32 e = refl
  width-within B16 B8 e = absurd (cc)
  width-within B16 B16 e = refl
  width-within B16 B32 e = refl
  width-within B32 B8 e = absurd (cc)
  width-within B32 B16 e = absurd (cc)
  width-within B32 B32 e = refl

  -- what was read of a place of a width
  pub place-holds : (w : Width) (o : Operand) (x : D) → has_place w o ≡ true → MayHold d blocks (width_of o) x → MayHold d blocks w x
  place-holds w o x e h = holds-within (width_of o) w x (width-within (width_of o) w (rest (is_place o) (is_width (width_of o) w) e)) h

  pub write-width : (v : Width) (to : Operand) (x : D) → is_width v (width_of to) ≡ true → MayHold d blocks v x → MayWrite d blocks to x
  write-width v to x e h = write-within v to x (width-within v (width_of to) e) h

module _ {D : Type 0} (d : Values D) (l : IsLawful d) where
  pub eval-counted : (blocks : List Counted) (op : Op) (w : Width) (a b : D) (align : ℕ) → HasCount blocks (named (d.reach a)) → HasCount blocks (named (d.reach b))
      → HasCount blocks (named (d.reach (d.eval op w a b align)))
  eval-counted blocks op w a b align h k =
      counted-of blocks (named (d.reach (d.eval op w a b align))) (named (d.reach a)) (named (d.reach b)) (λ s e. l.eval_names op w a b align s e) h k

  -- an operator's value may be held at its width
  pub eval-holds : (blocks : List Counted) (op : Op) (v u w : Width) (a b : D) (align : ℕ) → MayHold d blocks v a → MayHold d blocks u b → MayHold d blocks w (d.eval op w a b align)
  eval-holds blocks op v u w a b align h k = record {
    fits = λ n e. let is = l.eval_number op w a b align n e in subst (λ (x : ℕ). x < 2 ^ bits_of w) (sym is.is) (apply-lt op w is.first is.second);
    counted = eval-counted blocks op w a b align h.counted k.counted;
  }

  -- at a narrower width, where the operator's values fit it
  pub narrow-holds : (blocks : List Counted) (op : Op) (v u w : Width) (a b : D) (align : ℕ) → ((x y : ℕ) → apply_op op B32 x y < 2 ^ bits_of w)
      → MayHold d blocks v a → MayHold d blocks u b → MayHold d blocks w (d.eval op B32 a b align)
  narrow-holds blocks op v u w a b align less h k = record {
    fits = λ n e. let is = l.eval_number op B32 a b align n e in subst (λ (x : ℕ). x < 2 ^ bits_of w) (sym is.is) (less is.first is.second);
    counted = eval-counted blocks op B32 a b align h.counted k.counted;
  }

  place-none : (blocks : List Counted) (r : Region) (o : ℤ) (x : Option Region) → has_one_base r ≡ true → named (d.reach (d.place r o)) ≡ x → HasCount blocks x
  place-none blocks r o None e is = tt
  place-none blocks r o (Some s) e is =
      let same : s ≡ r = l.place_names r o s is in
      let block : has_one_base s ≡ false = named-block (d.reach (d.place r o)) s is in
      absurd (cc)

  -- the place of a region that has one base names no block
  pub place-counted : (blocks : List Counted) (r : Region) (o : ℤ) → has_one_base r ≡ true → HasCount blocks (named (d.reach (d.place r o)))
  place-counted blocks r o e = place-none blocks r o (named (d.reach (d.place r o))) e refl

-- Products and quotients: their expansion stands for what they do.
use Rattle.std.proofs.Common.{◌≡◌, ℕ, ◌+◌, ◌*◌, ◌/◌, ◌<◌, ◌%◌, ◌^◌, Bool, true, false, ◌==◌, cond, List, Option, Some, None, refl, sym, ◌∙◌, ap, subst, arith}
use Rattle.std.specs.Prelude.{nat_lt, ℤ, pos, ◌+ℤ◌, ◌*ℤ◌, int_div}
use Rattle.std.proofs.lemmas.Bool.{and_parts, ltb-true}
use Rattle.std.proofs.Math.Nat.{mod-lt}
use Rattle.std.proofs.lemmas.Bool.Decides.{nat_tests}
use Rattle.address_regions.specs.Places.{Places}
use Rattle.bit_words.specs.declared.width.Width.{Width}
use Rattle.bit_words.specs.declared.op.Op.{Op}
use Rattle.bit_words.specs.declared.op.Op.TheVariants.{Mul}
use Rattle.bit_words.specs.Width.{bits_of, cut, signed_of, is_signed, word_of}
use Rattle.bit_words.specs.Operators.{apply_op}
use Rattle.bit_words.proofs.Laws.{apply-lt, cut-lt, modulo-lt}
use Rattle.domain_laws.specs.Laws.{Values, IsLawful}
use Rattle.memory_map.specs.declared.choice.Choice.{Choice}
use Rattle.memory_map.specs.Image.{Image}
use Rattle.memory_map.specs.State.{MachineState, Flags}
use Rattle.memory_map.specs.declared.registers.TheConstants.{EAX}
use Rattle.partitioned_memory.specs.declared.fact.Counted.{Counted}
use Rattle.x86_syntax.specs.declared.instr.Operand.{Operand}
use Rattle.x86_semantics.specs.declared.flag_rule.FlagRule.{FlagRule}
use Rattle.x86_semantics.specs.declared.flag_rule.FlagRule.TheVariants.{Product, SignedProduct}
use Rattle.x86_semantics.specs.Arithmetic.{flagged as flagged_of}
use Rattle.x86_semantics.specs.FlagRules.{flags_after, freed, status_flags}
use Rattle.x86_semantics.specs.Operands.{Ended, Next, at_address, with_flags as with_flags_of}
use Rattle.x86_semantics.specs.Products.{divide as divide_of, divided as divided_of, multiply as multiply_of, multiply_long as multiply_long_of, on_divided, with_long as with_long_of}
use Rattle.x86_semantics.specs.Registers.{part as part_of, upper_register}
use Rattle.x86_semantics.specs.Widths.{has_width, is_value, is_width, width_of}
use Rattle.abstract_state.specs.declared.flags.Truths.{Truths}
use Rattle.abstract_state.specs.Expanding.{Path, ended}
use Rattle.abstract_state.specs.Flags.{FlagsStand}
use Rattle.abstract_state.specs.Truth.{StandsFor}
use Rattle.abstract_state.proofs.Bridge.{any_known, number_known}
use Rattle.transfer_functions.specs.Arithmetic.{flagged}
use Rattle.transfer_functions.specs.Flags.{ruled_truths}
use Rattle.transfer_functions.specs.Products.{divide, divide_by, divide_halves, divided, exact, multiply, multiply_long, on_quotients, product, quotients, divide_known, with_long}
use Rattle.transfer_functions.specs.Values.{on_state, with_part}
use Rattle.transfer_functions.proofs.FlagsSound.{IsResult, is_counted, ruled_stand}
use Rattle.transfer_functions.proofs.Steps.{S, H, E, lands_ends, part_stands, reading_ends, value_flags, with_flags_holds, with_part_holds}
use Rattle.transfer_functions.proofs.SoundArithmetic.{same_width}

-- the rules of products
abbrev pub is_product : FlagRule → Bool
is_product Product = true
is_product SignedProduct = true
is_product rule = false

product_plain : (rule : FlagRule) → is_product rule ≡ true → is_counted rule ≡ false
product_plain Product e = refl
product_plain SignedProduct e = refl
product_plain rule e = cc

product_result : (rule : FlagRule) (w : Width) (x y z : ℕ) (f : Flags) → is_product rule ≡ true → IsResult rule w x y f z
product_result Product w x y z f e = tt
product_result SignedProduct w x y z f e = tt
product_result rule w x y z f e = cc

-- ---- quotients of the machine

-- quotient and remainder are words
pub record AreWords (w : Width) (both : ℕ × ℕ) : Type 0 where
  pub first : both.0 < 2 ^ bits_of w
  pub second : both.1 < 2 ^ bits_of w

abbrev pub AllWords : Width → Option (ℕ × ℕ) → Type 0
AllWords w o = (both : ℕ × ℕ) → o ≡ Some both → AreWords w both

some_words : (w : Width) (t : Bool) (a b : ℕ) → (t ≡ true → (a < 2 ^ bits_of w) × (b < 2 ^ bits_of w)) → AllWords w (cond t (Some (a, b)) None)
some_words w true a b h both e =
    let words = h refl in let same : (a, b) ≡ both = cc in subst (AreWords w) same (record { first = words.0; second = words.1 })
some_words w false a b h both e = cc

rest_fits : (x y n : ℕ) → (y == 0) ≡ false → y < n → x % y < n
rest_fits x y n some less = let positive : 0 < y = grind (arith, nat_tests) in omega (arith, mod-lt x {m = y} positive)

word_fits_of : (w : Width) (z : ℤ) → word_of w z < 2 ^ bits_of w
word_fits_of w z = modulo-lt z (bits_of w)

pub quotient_words : (signed : Bool) (w : Width) (high low by : ℕ) → (cut w by == 0) ≡ false → AllWords w (quotients signed w high low by)
unfolding quotients
quotient_words true w high low by some =
    let x = signed_of w high *ℤ pos (2 ^ bits_of w) +ℤ pos low in
    some_words w (is_signed w (int_div x (signed_of w by))) _ _ (λ e. (word_fits_of w _, word_fits_of w _))
quotient_words false w high low by some =
    let x = high * 2 ^ bits_of w + low in
    some_words w (nat_lt (x / cut w by) (2 ^ bits_of w)) _ _ (λ e. (ltb-true _ _ e, rest_fits x (cut w by) (2 ^ bits_of w) some (cut-lt w by)))

-- the machine's state after a division
abbrev after_quotients : Width → MachineState → Option (ℕ × ℕ) → Option MachineState
after_quotients w m None = None
after_quotients w m (Some both) = Some (with_long_of w both.0 both.1 m)

chosen_state : (w : Width) (m : MachineState) (t : Bool) (a b : ℕ) → cond t (Some (with_long_of w a b m)) None ≡ after_quotients w m (cond t (Some (a, b)) None)
chosen_state w m true a b = refl
chosen_state w m false a b = refl

divided_is : (signed : Bool) (w : Width) (y : ℕ) (m : MachineState) → divided_of signed w y m ≡ cond (cut w y == 0) None (after_quotients w m (quotients signed w (part_of w (upper_register w) m) (part_of w EAX m) y))
unfolding divided_of quotients
divided_is true w y m = ap (cond (cut w y == 0) None) (chosen_state w m _ _ _)
divided_is false w y m = ap (cond (cut w y == 0) None) (chosen_state w m _ _ _)

module _ {D : Type 0} (d : Values D) (l : IsLawful d) (image : Image) (p : Places) (blocks : List Counted) where
  -- ---- products

  exact_stands : (op : Op) (w : Width) (a b : Option ℕ) (x y : ℕ) (q : Path D) (m : MachineState) → ((n : ℕ) → a ≡ Some n → x ≡ n) → ((n : ℕ) → b ≡ Some n → y ≡ n) → H d l image p blocks q m
      → S d l image p blocks w (exact d op w a b) (apply_op op w x y)
  exact_stands op w None b x y q m tells also h = any_known d l image p blocks w _ q m h (apply-lt op w x y)
  exact_stands op w (Some i) None x y q m tells also h = any_known d l image p blocks w _ q m h (apply-lt op w x y)
  exact_stands op w (Some i) (Some j) x y q m tells also h =
      let P : ℕ → Type 0 = λ n. S d l image p blocks w (d.number (apply_op op w i j)) (apply_op op w n y) in
      let Q : ℕ → Type 0 = λ n. S d l image p blocks w (d.number (apply_op op w i j)) (apply_op op w i n) in
      subst P (sym (tells i refl)) (subst Q (sym (also j refl)) (number_known d l image p blocks w (apply_op op w i j) q m h (apply-lt op w i j)))

  product_stands : (op : Op) (w : Width) (a b : D) (x y : ℕ) (q : Path D) (m : MachineState) → S d l image p blocks w a x → S d l image p blocks w b y → H d l image p blocks q m
      → S d l image p blocks w (product d op w a b) (apply_op op w x y)
  product_stands op w a b x y q m s t h =
      let valid = h.describes.fits.valid in
      exact_stands op w (d.number_of a) (d.number_of b) x y q m (λ n e. l.number_of_alone a n p x valid e s.stands) (λ n e. l.number_of_alone b n p y valid e t.stands) h

  with_long_holds : (w : Width) (low high : D) (x y : ℕ) (q : Path D) (m : MachineState) → S d l image p blocks w low x → S d l image p blocks w high y → H d l image p blocks q m
      → H d l image p blocks (on_state (with_long d image.align w low high) q) (with_long_of w x y m)
  with_long_holds w low high x y q m s t h =
      with_part_holds d l image p blocks w (upper_register w) high y _ _ t (with_part_holds d l image p blocks w EAX low x q m s h)

  flags_stand : (rule : FlagRule) (w : Width) (a b r : D) (x y z : ℕ) (q : Path D) (m : MachineState) (choice : Choice) → is_product rule ≡ true
      → S d l image p blocks w a x → S d l image p blocks w b y → S d l image p blocks w r z → H d l image p blocks q m
      → FlagsStand (ruled_truths d image.align rule w a b r q.state.flags) (flags_after rule w x y z choice m.flags)
  flags_stand rule w a b r x y z q m choice is s t value h =
      let fits = h.describes.fits in
      let P : ℕ → Type 0 = λ k. FlagsStand (ruled_truths d k rule w a b r q.state.flags) (flags_after rule w x y z choice m.flags) in
      subst P fits.align (ruled_stand d l p fits.valid rule w a b r x y z q.state.flags m.flags choice (product_plain rule is) (record { stands = s.stands; fits = s.fits }) (record { stands = t.stands; fits = t.fits })
      (record { stands = value.stands; fits = value.fits }) (product_result rule w x y z m.flags is) h.describes.flags)

  product_ends : (rule : FlagRule) (w : Width) (a b r : D) (x y z next : ℕ) (choice : Choice) (q : Path D) (m : MachineState) → next < 2 ^ 32 → is_product rule ≡ true
      → S d l image p blocks w a x → S d l image p blocks w b y → S d l image p blocks w r z → H d l image p blocks q m
      → E d l image p blocks (flagged d image rule w a b r next q) (flagged_of rule w x y z next choice m)
  product_ends rule w a b r x y z next choice q m less is s t value h =
      lands_ends d l image p blocks next _ _ less (with_flags_holds d l image p blocks _ _ q m (flags_stand rule w a b r x y z q m choice is s t value h) h)

  pub multiply_long_ends : (high : Op) (rule : FlagRule) (w : Width) (from : Operand) (next : ℕ) (choice : Choice) (q : Path D) (m : MachineState) → next < 2 ^ 32 → is_product rule ≡ true → has_width w from ≡ true → H d l image p blocks q m
      → E d l image p blocks (multiply_long d image high rule w from next q) (multiply_long_of high rule w from next choice m)
  multiply_long_ends high rule w from next choice q m less is has h =
      let parts = and_parts (is_value from) (is_width (width_of from) w) has in
      reading_ends d l image p blocks from q m _ _ parts.0 h (λ b y t read.
      let other = subst (λ z. S d l image p blocks z b y) (same_width (width_of from) w parts.1) t in
      let own = part_stands d l image p blocks w EAX q m h in
      let low = product_stands Mul w _ b _ y q m own other h in
      product_ends rule w _ b _ _ y _ next choice _ _ less is own other low (with_long_holds w _ _ _ _ q m low (product_stands high w _ b _ y q m own other h) h))

  pub multiply_ends : (w : Width) (r : ℕ) (left right : Operand) (next : ℕ) (choice : Choice) (q : Path D) (m : MachineState) → next < 2 ^ 32 → has_width w left ≡ true → has_width w right ≡ true → H d l image p blocks q m
      → E d l image p blocks (multiply d image w r left right next q) (multiply_of w r left right next choice m)
  multiply_ends w r left right next choice q m less has also h =
      let first = and_parts (is_value left) (is_width (width_of left) w) has in
      let second = and_parts (is_value right) (is_width (width_of right) w) also in
      reading_ends d l image p blocks left q m _ _ first.0 h (λ a x s read.
      reading_ends d l image p blocks right q m _ _ second.0 h (λ b y t also_read.
      let one = subst (λ z. S d l image p blocks z a x) (same_width (width_of left) w first.1) s in
      let other = subst (λ z. S d l image p blocks z b y) (same_width (width_of right) w second.1) t in
      let low = product_stands Mul w a b x y q m one other h in
      product_ends SignedProduct w a b _ x y _ next choice _ _ less refl one other low (with_part_holds d l image p blocks w r _ _ q m low h)))

  -- ---- quotients

  -- with no status flag known
  freed_ends : (w : Width) (quotient remainder : D) (x y next : ℕ) (choice : Choice) (q : Path D) (m : MachineState) → next < 2 ^ 32 → S d l image p blocks w quotient x → S d l image p blocks w remainder y → H d l image p blocks q m
      → E d l image p blocks (divided d image w quotient remainder next q) (Next (at_address next (with_flags_of (freed status_flags choice (with_long_of w x y m).flags) (with_long_of w x y m))))
  freed_ends w quotient remainder x y next choice q m less s t h =
      let long = with_long_holds w quotient remainder x y q m s t h in
      let same = value_flags d l image p blocks w (upper_register w) remainder (with_part d image.align w EAX quotient q.state) ∙ value_flags d l image p blocks w EAX quotient q.state in
      let before = subst (λ (t : Truths). StandsFor t.direction (with_long_of w x y m).flags.direction) same long.describes.flags.direction in
      lands_ends d l image p blocks next _ _ less (with_flags_holds d l image p blocks _ _ _ _
      (record { carry = tt; parity = tt; adjust = tt; zero = tt; sign = tt; overflow = tt; direction = before }) long)

  abbrev done_with : ℕ → Choice → MachineState → Ended
  done_with next choice n = Next (at_address next (with_flags_of (freed status_flags choice n.flags) n))

  -- where quotient and remainder are known to be some words, or where nothing is known of them
  some_quotients_end : (w : Width) (o : Option (ℕ × ℕ)) (next : ℕ) (choice : Choice) (q : Path D) (m : MachineState) → next < 2 ^ 32 → AllWords w o → H d l image p blocks q m
      → E d l image p blocks (divided d image w d.any d.any next q) (on_divided m (after_quotients w m o) (done_with next choice))
  some_quotients_end w None next choice q m less words h = tt
  some_quotients_end w (Some both) next choice q m less words h =
      let k = words both refl in
      freed_ends w d.any d.any both.0 both.1 next choice q m less (any_known d l image p blocks w both.0 q m h k.first) (any_known d l image p blocks w both.1 q m h k.second) h

  known_quotients_end : (w : Width) (o : Option (ℕ × ℕ)) (next : ℕ) (choice : Choice) (q : Path D) (m : MachineState) → next < 2 ^ 32 → AllWords w o → H d l image p blocks q m
      → E d l image p blocks (on_quotients d image o w next q) (on_divided m (after_quotients w m o) (done_with next choice))
  known_quotients_end w None next choice q m less words h = tt
  known_quotients_end w (Some both) next choice q m less words h =
      let k = words both refl in
      freed_ends w _ _ both.0 both.1 next choice q m less (number_known d l image p blocks w both.0 q m h k.first) (number_known d l image p blocks w both.1 q m h k.second) h

  halves_end : (signed : Bool) (w : Width) (a b : Option ℕ) (high low by next : ℕ) (choice : Choice) (q : Path D) (m : MachineState) → next < 2 ^ 32 → (cut w by == 0) ≡ false
      → ((n : ℕ) → a ≡ Some n → high ≡ n) → ((n : ℕ) → b ≡ Some n → low ≡ n) → H d l image p blocks q m
      → E d l image p blocks (divide_halves d image signed w by a b next q) (on_divided m (after_quotients w m (quotients signed w high low by)) (done_with next choice))
  halves_end signed w None b high low by next choice q m less some tells also h = some_quotients_end w _ next choice q m less (quotient_words signed w high low by some) h
  halves_end signed w (Some i) None high low by next choice q m less some tells also h = some_quotients_end w _ next choice q m less (quotient_words signed w high low by some) h
  halves_end signed w (Some i) (Some j) high low by next choice q m less some tells also h =
      let P : ℕ → Type 0 = λ n. E d l image p blocks (divide_halves d image signed w by (Some i) (Some j) next q) (on_divided m (after_quotients w m (quotients signed w n low by)) (done_with next choice)) in
      let Q : ℕ → Type 0 = λ n. E d l image p blocks (divide_halves d image signed w by (Some i) (Some j) next q) (on_divided m (after_quotients w m (quotients signed w i n by)) (done_with next choice)) in
      subst P (sym (tells i refl)) (subst Q (sym (also j refl)) (known_quotients_end w (quotients signed w i j by) next choice q m less (quotient_words signed w i j by some) h))

  divide_by_end : (signed : Bool) (w : Width) (o : Option ℕ) (y next : ℕ) (choice : Choice) (q : Path D) (m : MachineState) → next < 2 ^ 32 → ((n : ℕ) → o ≡ Some n → y ≡ n) → H d l image p blocks q m
      → E d l image p blocks (divide_by d image signed w o next q)
      (on_divided m (cond (cut w y == 0) None (after_quotients w m (quotients signed w (part_of w (upper_register w) m) (part_of w EAX m) y))) (done_with next choice))
  divide_by_end signed w None y next choice q m less tells h =
      elim (cut w y == 0) as (λ b. (cut w y == 0) ≡ b → E d l image p blocks (divide_by d image signed w None next q)
      (on_divided m (cond b None (after_quotients w m (quotients signed w (part_of w (upper_register w) m) (part_of w EAX m) y))) (done_with next choice))) [
        | true ↦ λ e. tt
        | false ↦ λ e. some_quotients_end w _ next choice q m less (quotient_words signed w (part_of w (upper_register w) m) (part_of w EAX m) y e) h
      ] refl
  divide_by_end signed w (Some by) y next choice q m less tells h =
      let upper = part_stands d l image p blocks w (upper_register w) q m h in
      let lower = part_stands d l image p blocks w EAX q m h in
      let valid = h.describes.fits.valid in
      let P : ℕ → Type 0 = λ n. E d l image p blocks (divide_by d image signed w (Some by) next q)
      (on_divided m (cond (cut w n == 0) None (after_quotients w m (quotients signed w (part_of w (upper_register w) m) (part_of w EAX m) n))) (done_with next choice)) in
      subst P (sym (tells by refl)) (elim (cut w by == 0) as (λ b. (cut w by == 0) ≡ b → E d l image p blocks (cond b (ended q.writes) (divide_known d image signed w by next q))
      (on_divided m (cond b None (after_quotients w m (quotients signed w (part_of w (upper_register w) m) (part_of w EAX m) by))) (done_with next choice))) [
        | true ↦ λ e. tt
        | false ↦ λ e.
            halves_end signed w _ _ (part_of w (upper_register w) m) (part_of w EAX m) by next choice q m less e
            (λ n told. l.number_of_alone _ n p _ valid told upper.stands) (λ n told. l.number_of_alone _ n p _ valid told lower.stands) h
      ] refl)

  pub divide_ends : (signed : Bool) (w : Width) (by : Operand) (next : ℕ) (choice : Choice) (q : Path D) (m : MachineState) → next < 2 ^ 32 → has_width w by ≡ true → H d l image p blocks q m
      → E d l image p blocks (divide d image signed w by next q) (divide_of signed w by next choice m)
  divide_ends signed w by next choice q m less has h =
      let parts = and_parts (is_value by) (is_width (width_of by) w) has in
      reading_ends d l image p blocks by q m _ _ parts.0 h (λ v y s read.
      let P : Option MachineState → Type 0 = λ o. E d l image p blocks (divide_by d image signed w (d.number_of v) next q) (on_divided m o (done_with next choice)) in
      subst P (sym (divided_is signed w y m)) (divide_by_end signed w (d.number_of v) y next choice q m less (λ n e. l.number_of_alone v n p y h.describes.fits.valid e s.stands) h))

-- The worked calls come to what is due: the definitions compute it. A block that is too large to be written out is known by its size.
use Rattle.std.proofs.Common.{◌≡◌, ℕ, ◌+◌, Bool, true, false, cond, List, [], ◌∷◌, Option, Some, None, refl, sym, ◌∙◌, ap}
use Rattle.std.specs.Prelude.{not, ◌&&◌, ◌||◌, nat_le}
use Rattle.std.specs.List.{list_all}
use Rattle.std.proofs.lemmas.Bool.{false≢true}
use Rattle.std.proofs.lemmas.List.{length-replicate}
use Rattle.memory_map.specs.declared.choice.Choice.{Choice}
use Rattle.memory_map.specs.declared.fault.BadKind.{BadKind}
use Rattle.memory_map.specs.declared.fault.BadKind.TheVariants as bad
use Rattle.memory_map.specs.Range.{Range, USER_END, USER_LOW, byte_at, end_of, may_write}
use Rattle.memory_map.specs.State.{MachineState, memory}
use Rattle.stub_file.specs.declared.stub.Amount.{Amount}
use Rattle.stub_file.specs.declared.stub.Amount.TheVariants.{Argument, Fixed}
use Rattle.stub_file.specs.declared.stub.Reply.TheVariants.{Block}
use Rattle.stub_file.specs.declared.stub.Stub.{Stub}
use Rattle.x86_semantics.specs.Memory.{number_at, with_number, word_at}
use Rattle.import_semantics.specs.StubDoes.{Bad, LARGEST_BLOCK, StubEnd, after_call, amount, bad_of, block_of, block_size, end_by, fault_of, filled_in, fresh_block, is_allowed, may_fail, may_fill, may_lie, stub_does}
use Rattle.import_semantics.specs.WorkedCalls.{AreDue, CALLS, LARGE_BLOCKS}

pub calls_are_due : AreDue CALLS
unfolding stub_does byte_at may_write number_at with_number word_at
calls_are_due = refl

-- whether a block of a size may lie there, which asks for none of its bytes
lies : ℕ → ℕ → List Range → Bool
lies base n rs =
    nat_le (base + n) (base + LARGEST_BLOCK)
    && (nat_le USER_LOW base && (nat_le (base + n) USER_END && list_all (λ s. nat_le (base + n) s.low || nat_le (end_of s) base) rs))

lies_is : (base n : ℕ) (m : MachineState) → may_lie m (fresh_block base n) ≡ lies base n (memory m)
unfolding lies
lies_is base n m =
    ap (λ k. nat_le (base + k) (base + LARGEST_BLOCK)
    && (nat_le USER_LOW base && (nat_le (base + k) USER_END && list_all (λ s. nat_le (base + k) s.low || nat_le (end_of s) base) (memory m)))) (length-replicate n 0)

-- a call that hands out a block where no fault holds
record Hands (size : Amount) (zeroed may : Bool) (s : Stub) (choice : Choice) (m : MachineState) : Type 0 where
  replies : s.reply ≡ Block size zeroed may
  works : choice.fails ≡ false
  clear : fault_of s m ≡ None

-- whether its block may lie where the choice has it, by its size alone
lies_of : Amount → Choice → MachineState → Bool
lies_of size choice m = lies choice.base (block_size (amount size m)) (memory m)

allowed_is : (size : Amount) (zeroed may : Bool) (s : Stub) (choice : Choice) (m : MachineState) → Hands size zeroed may s choice m → is_allowed m (block_of s.reply choice m) ≡ lies_of size choice m
unfolding lies_of
allowed_is size zeroed may s choice m h =
    let n = block_size (amount size m) in
    ap (λ r. is_allowed m (block_of r choice m)) h.replies
    ∙ ap (λ b. is_allowed m (cond b None (Some (fresh_block choice.base n)))) h.works
    ∙ lies_is choice.base n m

base_named : (a b : Bool) (x y z : Option BadKind) → a ≡ false → b ≡ false → cond a x (cond (not b) y z) ≡ y
base_named false false x y z p q = refl
base_named true b x y z p q = absurd (false≢true (sym p))
base_named false true x y z p q = absurd (false≢true (sym q))

fill_named : (a b d : Bool) (x y z w : Option BadKind) → a ≡ false → b ≡ true → d ≡ false → cond a x (cond (not b) y (cond (not d) z w)) ≡ z
fill_named false true false x y z w p q r = refl
fill_named true b d x y z w p q r = absurd (false≢true (sym p))
fill_named false false d x y z w p q r = absurd (false≢true q)
fill_named false true true x y z w p q r = absurd (false≢true (sym r))

is_named : (size : Amount) (zeroed may : Bool) (s : Stub) (choice : Choice) (m : MachineState) (kind : BadKind) → Hands size zeroed may s choice m → bad_of s choice m ≡ Some kind → stub_does s choice m ≡ Bad kind
unfolding stub_does
is_named size zeroed may s choice m kind h named =
    let next = after_call s choice m in
    ap (λ f. end_by f (bad_of s choice m) next) h.clear ∙ ap (λ b. end_by None b next) named

never_fails : (size : Amount) (zeroed may : Bool) (s : Stub) (choice : Choice) (m : MachineState) → Hands size zeroed may s choice m → (choice.fails && not (may_fail s.reply)) ≡ false
never_fails size zeroed may s choice m h = ap (λ b. b && not (may_fail s.reply)) h.works

base_is_bad : (size : Amount) (zeroed may : Bool) (s : Stub) (choice : Choice) (m : MachineState) → Hands size zeroed may s choice m → lies_of size choice m ≡ false → stub_does s choice m ≡ Bad bad.Base
base_is_bad size zeroed may s choice m h off =
    is_named size zeroed may s choice m bad.Base h
    (base_named _ _ _ _ _ (never_fails size zeroed may s choice m h) (allowed_is size zeroed may s choice m h ∙ off))

fill_is_bad : (size : Amount) (zeroed may : Bool) (s : Stub) (choice : Choice) (m : MachineState) → Hands size zeroed may s choice m → lies_of size choice m ≡ true
    → list_all (may_fill s choice m) (filled_in choice) ≡ false
    → stub_does s choice m ≡ Bad bad.Fill
fill_is_bad size zeroed may s choice m h on off =
    is_named size zeroed may s choice m bad.Fill h
    (fill_named _ _ _ _ _ _ _ (never_fails size zeroed may s choice m h) (allowed_is size zeroed may s choice m h ∙ on) off)

-- six rows are due as each is
rows : {a b c d e f a' b' c' d' e' f' : StubEnd} → a ≡ a' → b ≡ b' → c ≡ c' → d ≡ d' → e ≡ e' → f ≡ f'
    → (a ∷ b ∷ c ∷ d ∷ e ∷ f ∷ []) ≡ (a' ∷ b' ∷ c' ∷ d' ∷ e' ∷ f' ∷ [])
rows p q r s t u = cc

pub large_are_due : AreDue LARGE_BLOCKS
unfolding byte_at may_write number_at word_at lies lies_of
large_are_due =
    rows
    (base_is_bad (Argument 0) false true _ _ _ (record { replies = refl; works = refl; clear = refl }) refl)
    (base_is_bad (Argument 0) false true _ _ _ (record { replies = refl; works = refl; clear = refl }) refl)
    (base_is_bad (Argument 0) false false _ _ _ (record { replies = refl; works = refl; clear = refl }) refl)
    (base_is_bad (Fixed 67108864) false false _ _ _ (record { replies = refl; works = refl; clear = refl }) refl)
    (fill_is_bad (Argument 0) false false _ _ _ (record { replies = refl; works = refl; clear = refl }) refl refl)
    (fill_is_bad (Fixed 67108864) false false _ _ _ (record { replies = refl; works = refl; clear = refl }) refl refl)

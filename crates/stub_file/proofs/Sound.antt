-- What a table without a fault says at each of its keys.
use Rattle.std.specs.Option.{option_map_or}
use Rattle.std.proofs.Common.{◌≡◌, ◌∙◌, ℕ, ◌≤◌, ◌<◌, ◌^◌, ◌/◌, ◌%◌, ◌==◌, IsSomeAnd, IsTrue, true, false, not, ◌&&◌, ◌||◌, List, [], ◌∷◌, map, All, Option, Some, None, is_some, codes, length, nat_le, unwrap_or, refl, sym, subst, inl, inr, lit<, arith}
use Rattle.std.specs.List.{AllZip, list_all, list_any}
use Rattle.std.proofs.lemmas.Bool.{and_from, and_parts, cases_Bool, false≢true, leb-true, ltb-true, not-false, or_parts, true≢false}
use Rattle.std.proofs.lemmas.List.Elements.{All-cons, All-nil}
use Rattle.std.proofs.lemmas.Option.{same_Some}
use Rattle.toml.specs.Data.{Data, Members, as_array, as_str, as_table}
use Rattle.toml.specs.View.{view}
use Rattle.toml.specs.declared.value.Value.{Value}
use Rattle.stub_file.specs.Document.{items_at, items_of, natural_at, natural_of, text_at, value_at}
use Rattle.stub_file.specs.Rules.{is_among, is_index, is_reply, is_size_of_arguments, items_are_tables}
use Rattle.stub_file.specs.Faults.{args_of, choices_made, has_choices, has_wrong_kind, has_wrong_type, is_missing, is_out, is_out_of_range, is_wrong, lacks_required, reply_of, stub_has, table_fault, table_has, write_has}
use Rattle.stub_file.specs.Stated.{HasAmount, HasReply, HasWrite, HasWriteOf, IsAmount, IsBelow, IsReply, IsStubOf, IsWrite, IsWriteOf, amount_is_own, has_own_arguments, reply_is_own, write_is_own}
use Rattle.stub_file.specs.declared.fault.StubFault.TheVariants.{WrongKind, OutOfRange}
use Rattle.stub_file.specs.declared.fault.TheConstants.{FAULTS}
use Rattle.stub_file.specs.declared.keys.Key.{Key}
use Rattle.stub_file.specs.declared.keys.Key.TheVariants as key
use Rattle.stub_file.specs.declared.keys.Numbers.{Numbers}
use Rattle.stub_file.specs.declared.keys.Rule.{Rule}
use Rattle.stub_file.specs.declared.keys.TheConstants.{STUB_KEYS, WRITE_KEYS}
use Rattle.stub_file.specs.declared.stub.Amount.{Amount}
use Rattle.stub_file.specs.declared.stub.Amount.TheVariants.{Fixed, Argument}
use Rattle.stub_file.specs.declared.stub.Reply.{Reply}
use Rattle.stub_file.specs.declared.stub.Reply.TheVariants as reply
use Rattle.stub_file.specs.declared.stub.Stub.{Stub}
use Rattle.stub_file.specs.declared.stub.StubWrite.{StubWrite}
use Rattle.stub_file.proofs.Tables.{IsRead, absent, at_most, in_range, none_at, not_found, read}

pub record Sound (rules : List Rule) (reply : List ℕ) (args : ℕ) (t : Members) : Type 0 where
  pub typed : list_any (is_wrong t) rules ≡ false
  pub required : list_any (is_missing reply t) rules ≡ false
  pub chosen : (has_choices rules reply && choices_made rules t == 0) ≡ false
  pub ranged : list_any (is_out args t) rules ≡ false

pub sound : (rules : List Rule) (reply : List ℕ) (args : ℕ) (t : Members) → table_has rules reply args WrongKind t ≡ false → table_has rules reply args OutOfRange t ≡ false → Sound rules reply args t
unfolding table_has has_wrong_kind has_wrong_type lacks_required is_out_of_range
sound rules reply args t kinds ranges =
    let front = or_parts (list_any (is_wrong t) rules || list_any (is_missing reply t) rules) (has_choices rules reply && choices_made rules t == 0) kinds in
    let parts = or_parts (list_any (is_wrong t) rules) (list_any (is_missing reply t) rules) front.0 in
    record { typed = parts.0; required = parts.1; chosen = front.1; ranged = ranges }

-- the tests of numbers
abbrev words : Numbers
words = record { low = 0; high = 4294967295 }

abbrev sizes : Numbers
sizes = record { low = 1; high = 67108864 }

abbrev lengths : Numbers
lengths = record { low = 0; high = 67108864 }

among_below : (m : Numbers) (limit n : ℕ) → m.high < limit → is_among m n ≡ true → n < limit
among_below m limit n high h = omega (arith, leb-true n m.high (and_parts (nat_le m.low n) (nat_le n m.high) h).1)

index_below : (args n : ℕ) → args ≤ 64 → is_index args n ≡ true → n < 256
index_below args n few h = omega (arith, ltb-true n (args / 4) h)

size_at_most : (n : ℕ) → is_size_of_arguments n ≡ true → n ≤ 64
size_at_most n h = leb-true n 64 (and_parts (nat_le n 64) (n % 4 == 0) h).0

below : (limit : ℕ) (o : Option ℕ) (n : ℕ) → o ≡ Some n → n < limit → IsBelow limit o
below limit o n e h = rw e h

-- a number that is there, or an argument's index
amount : (m : Numbers) (args : ℕ) (fixed index : Key) (t : Members) → m.high < 2 ^ 32 → args ≤ 64
    → option_map_or (λ d. not (option_map_or (is_among m) (natural_of d) false)) (value_at fixed t) false ≡ false
    → option_map_or (λ d. not (option_map_or (is_index args) (natural_of d) false)) (value_at index t) false ≡ false
    → (is_some (value_at fixed t) ≡ false → is_some (value_at index t) ≡ true)
    → HasAmount fixed index t
amount m args fixed index t high few out_fixed out_index other =
    elim (cases_Bool (is_some (value_at fixed t))) [
      | inl there ↦
          (let r = read natural_of (is_among m) (value_at fixed t) there out_fixed in
          inl (below (2 ^ 32) (natural_at fixed t) r.value r.is (among_below m (2 ^ 32) r.value high r.passes)))
      | inr missing ↦
          (let r = read natural_of (is_index args) (value_at index t) (other missing) out_index in
          inr (absent natural_of (value_at fixed t) missing, below 256 (natural_at index t) r.value r.is (index_below args r.value few r.passes)))
    ]

module _ (reply : List ℕ) (args : ℕ) (t : Members) (s : Sound STUB_KEYS reply args t) where
  pub args_read : IsRead natural_of is_size_of_arguments (value_at key.Args t)
  args_read =
      read natural_of is_size_of_arguments (value_at key.Args t)
      (not-false (is_some (value_at key.Args t)) (none_at (is_missing reply t) STUB_KEYS 0 s.required))
      (none_at (is_out args t) STUB_KEYS 0 s.ranged)

  pub cleans_fit : unwrap_or (natural_at key.Cleans t) 0 ≤ 64
  cleans_fit = at_most is_size_of_arguments 64 (value_at key.Cleans t) size_at_most (none_at (is_out args t) STUB_KEYS 1 s.ranged)

  reply_read : IsRead as_str is_reply (value_at key.Reply t)
  reply_read =
      read as_str is_reply (value_at key.Reply t)
      (not-false (is_some (value_at key.Reply t)) (none_at (is_missing reply t) STUB_KEYS 2 s.required))
      (none_at (is_out args t) STUB_KEYS 2 s.ranged)

  pub reply_there : IsSomeAnd (text_at key.Reply t) (λ text. IsTrue (is_reply text))
  reply_there = (let r = reply_read in rw r.is r.passes)

number_there : (args : ℕ) (t : Members) → Sound STUB_KEYS (codes "number") args t → IsBelow (2 ^ 32) (natural_at key.Number t)
number_there args t s =
    let r =
    read natural_of (is_among words) (value_at key.Number t)
    (not-false (is_some (value_at key.Number t)) (none_at (is_missing (codes "number") t) STUB_KEYS 3 s.required))
    (none_at (is_out args t) STUB_KEYS 3 s.ranged) in
    below (2 ^ 32) (natural_at key.Number t) r.value r.is (among_below words (2 ^ 32) r.value (lit< tt) r.passes)

enter_there : (args : ℕ) (t : Members) → args ≤ 64 → Sound STUB_KEYS (codes "enter") args t → IsBelow 256 (natural_at key.EnterArg t)
enter_there args t few s =
    let r =
    read natural_of (is_index args) (value_at key.EnterArg t)
    (not-false (is_some (value_at key.EnterArg t)) (none_at (is_missing (codes "enter") t) STUB_KEYS 8 s.required))
    (none_at (is_out args t) STUB_KEYS 8 s.ranged) in
    below 256 (natural_at key.EnterArg t) r.value r.is (index_below args r.value few r.passes)

size_there : (args : ℕ) (t : Members) → args ≤ 64 → Sound STUB_KEYS (codes "block") args t → HasAmount key.Size key.SizeArg t
unfolding has_choices choices_made
size_there args t few s =
    amount sizes args key.Size key.SizeArg t (lit< tt) few (none_at (is_out args t) STUB_KEYS 4 s.ranged) (none_at (is_out args t) STUB_KEYS 5 s.ranged)
    (λ missing. elim (cases_Bool (is_some (value_at key.SizeArg t))) [
      | inl there ↦ there
      | inr none ↦ absurd (true≢false (rw (missing, none) at s.chosen))
    ])

reply_known : (reply : List ℕ) (args : ℕ) (t : Members) → text_at key.Reply t ≡ Some reply → Sound STUB_KEYS (reply_of t) args t → Sound STUB_KEYS reply args t
unfolding reply_of
reply_known reply args t e s =
    let P : List ℕ → Type 0 = λ r. Sound STUB_KEYS r args t in
    let same : unwrap_or (text_at key.Reply t) [] ≡ reply = rw e in
    subst P same s

pub has_reply : (args : ℕ) (t : Members) → args ≤ 64 → Sound STUB_KEYS (reply_of t) args t → HasReply t
has_reply args t few s =
    record {
      reply = reply_there (reply_of t) args t s;
      number = λ e. number_there args t (reply_known (codes "number") args t e s);
      block = λ e. size_there args t few (reply_known (codes "block") args t e s);
      enter = λ e. enter_there args t few (reply_known (codes "enter") args t e s);
    }

-- a write
length_there : (args : ℕ) (t : Members) → args ≤ 64 → Sound WRITE_KEYS [] args t → HasAmount key.Length key.LengthArg t
unfolding has_choices choices_made
length_there args t few s =
    amount lengths args key.Length key.LengthArg t (lit< tt) few (none_at (is_out args t) WRITE_KEYS 1 s.ranged) (none_at (is_out args t) WRITE_KEYS 2 s.ranged)
    (λ missing. elim (cases_Bool (is_some (value_at key.LengthArg t))) [
      | inl there ↦ there
      | inr none ↦ absurd (true≢false (rw (missing, none) at s.chosen))
    ])

write_there : (args : ℕ) (t : Members) → args ≤ 64 → Sound WRITE_KEYS [] args t → HasWriteOf t
write_there args t few s =
    let r =
    read natural_of (is_index args) (value_at key.Arg t)
    (not-false (is_some (value_at key.Arg t)) (none_at (is_missing [] t) WRITE_KEYS 0 s.required))
    (none_at (is_out args t) WRITE_KEYS 0 s.ranged) in
    (below 256 (natural_at key.Arg t) r.value r.is (index_below args r.value few r.passes), length_there args t few s)

amount_own : (args : ℕ) (fixed index : Key) (t : Members) (a : Amount)
    → option_map_or (λ d. not (option_map_or (is_index args) (natural_of d) false)) (value_at index t) false ≡ false
    → IsAmount fixed index t a → amount_is_own args a ≡ true
amount_own args fixed index t (Fixed n) out h = refl
amount_own args fixed index t (Argument i) out h = in_range natural_of (is_index args) (value_at index t) i out h

write_own : (args : ℕ) (t : Members) (w : StubWrite) → Sound WRITE_KEYS [] args t → IsWriteOf t w → write_is_own args w ≡ true
write_own args t w s h =
    and_from (is_index args w.arg) (amount_is_own args w.length)
    (in_range natural_of (is_index args) (value_at key.Arg t) w.arg (none_at (is_out args t) WRITE_KEYS 0 s.ranged) h.arg)
    (amount_own args key.Length key.LengthArg t w.length (none_at (is_out args t) WRITE_KEYS 2 s.ranged) h.length)

reply_own : (args : ℕ) (t : Members) (r : Reply) → list_any (is_out args t) STUB_KEYS ≡ false → IsReply t r → reply_is_own args r ≡ true
reply_own args t reply.Anything out h = refl
reply_own args t (reply.Number n) out h = refl
reply_own args t (reply.Block size zeroed may_fail) out h = amount_own args key.Size key.SizeArg t size (none_at (is_out args t) STUB_KEYS 5 out) h.1.size_is
reply_own args t reply.Never out h = refl
reply_own args t (reply.Enter i) out h = in_range natural_of (is_index args) (value_at key.EnterArg t) i (none_at (is_out args t) STUB_KEYS 8 out) h.1

-- the items of `writes`
item_there : (args : ℕ) → args ≤ 64 → (o : Option Members) → is_some o ≡ true → option_map_or (table_has WRITE_KEYS [] args WrongKind) o false ≡ false
    → option_map_or (table_has WRITE_KEYS [] args OutOfRange) o false ≡ false → IsSomeAnd o HasWriteOf
item_there args few None there kinds ranges = absurd (false≢true there)
item_there args few (Some t) there kinds ranges = write_there args t few (sound WRITE_KEYS [] args t kinds ranges)

has_write : (args : ℕ) → args ≤ 64 → (d : Data) → is_some (as_table d) ≡ true → write_has args WrongKind d ≡ false → write_has args OutOfRange d ≡ false → HasWrite d
unfolding write_has
has_write args few d there kinds ranges = item_there args few (as_table d) there kinds ranges

pub all_writes : (args : ℕ) → args ≤ 64 → (vs : List Value) → list_all (λ d. is_some (as_table d)) (map view vs) ≡ true
    → list_any (write_has args WrongKind) (map view vs) ≡ false → list_any (write_has args OutOfRange) (map view vs) ≡ false → All (λ v. HasWrite (view v)) vs
all_writes args few [] there kinds ranges = All-nil (λ v. HasWrite (view v))
all_writes args few (v ∷ vs) there kinds ranges =
    let t = and_parts (is_some (as_table (view v))) (list_all (λ d. is_some (as_table d)) (map view vs)) there in
    let k = or_parts (write_has args WrongKind (view v)) (list_any (write_has args WrongKind) (map view vs)) kinds in
    let r = or_parts (write_has args OutOfRange (view v)) (list_any (write_has args OutOfRange) (map view vs)) ranges in
    All-cons (λ v. HasWrite (view v)) v vs (has_write args few (view v) t.0 k.0 r.0) (all_writes args few vs t.1 k.1 r.1)

item_own : (args : ℕ) (w : StubWrite) (o : Option Members) → option_map_or (table_has WRITE_KEYS [] args WrongKind) o false ≡ false
    → option_map_or (table_has WRITE_KEYS [] args OutOfRange) o false ≡ false → IsSomeAnd o (λ t. IsWriteOf t w) → write_is_own args w ≡ true
item_own args w None kinds ranges h = elim h [ ]
item_own args w (Some t) kinds ranges h = write_own args t w (sound WRITE_KEYS [] args t kinds ranges) h

data_own : (args : ℕ) (w : StubWrite) (d : Data) → write_has args WrongKind d ≡ false → write_has args OutOfRange d ≡ false → IsWrite d w → write_is_own args w ≡ true
unfolding write_has
data_own args w d kinds ranges h = item_own args w (as_table d) kinds ranges h

writes_own : (args : ℕ) (ds : List Data) (ws : List StubWrite) → AllZip IsWrite ds ws → list_any (write_has args WrongKind) ds ≡ false
    → list_any (write_has args OutOfRange) ds ≡ false → list_all (write_is_own args) ws ≡ true
writes_own args [] [] h kinds ranges = refl
writes_own args [] (w ∷ ws) h kinds ranges = elim h [ ]
writes_own args (d ∷ ds) [] h kinds ranges = elim h [ ]
writes_own args (d ∷ ds) (w ∷ ws) h kinds ranges =
    let k = or_parts (write_has args WrongKind d) (list_any (write_has args WrongKind) ds) kinds in
    let r = or_parts (write_has args OutOfRange d) (list_any (write_has args OutOfRange) ds) ranges in
    and_from (write_is_own args w) (list_all (write_is_own args) ws) (data_own args w d k.0 r.0 h.0) (writes_own args ds ws h.1 k.1 r.1)

items_typed : (o : Option Data) → option_map_or (λ d. not (items_are_tables d)) o false ≡ false → list_all (λ d. is_some (as_table d)) (option_map_or items_of o []) ≡ true
items_typed None h = refl
items_typed (Some d) h = (and_parts (is_some (as_array d)) (list_all (λ item. is_some (as_table item)) (items_of d)) (not-false (items_are_tables d) h)).1

items_few : (o : Option Data) → option_map_or (λ d. not (nat_le (length (items_of d)) 4)) o false ≡ false → length (option_map_or items_of o []) ≤ 4
items_few None h = omega arith
items_few (Some d) h = leb-true (length (items_of d)) 4 (not-false (nat_le (length (items_of d)) 4) h)

-- what a stub's table without a fault says
pub record Whole (t : Members) : Type 0 where
  pub stub : Sound STUB_KEYS (reply_of t) (args_of t) t
  pub write_kinds : list_any (write_has (args_of t) WrongKind) (items_at key.Writes t) ≡ false
  pub write_ranges : list_any (write_has (args_of t) OutOfRange) (items_at key.Writes t) ≡ false

pub whole : (t : Members) → table_fault t ≡ None → Whole t
unfolding table_fault stub_has
whole t h =
    let kinds = or_parts (table_has STUB_KEYS (reply_of t) (args_of t) WrongKind t) (list_any (write_has (args_of t) WrongKind) (items_at key.Writes t)) (not_found (λ fault. stub_has fault t) FAULTS 1 h) in
    let ranges = or_parts (table_has STUB_KEYS (reply_of t) (args_of t) OutOfRange t) (list_any (write_has (args_of t) OutOfRange) (items_at key.Writes t)) (not_found (λ fault. stub_has fault t) FAULTS 2 h) in
    record { stub = sound STUB_KEYS (reply_of t) (args_of t) t kinds.0 ranges.0; write_kinds = kinds.1; write_ranges = ranges.1 }

module _ (t : Members) (w : Whole t) where
  pub args_are : natural_at key.Args t ≡ Some (args_of t)
  unfolding args_of
  args_are = (let r = args_read (reply_of t) (args_of t) t w.stub in rw r.is)

  pub args_few : args_of t ≤ 64
  unfolding args_of
  args_few = (let r = args_read (reply_of t) (args_of t) t w.stub in rw r.is (size_at_most r.value r.passes))

  pub writes_few : length (items_at key.Writes t) ≤ 4
  writes_few = items_few (value_at key.Writes t) (none_at (is_out (args_of t) t) STUB_KEYS 9 w.stub.ranged)

  pub writes_typed : list_all (λ d. is_some (as_table d)) (items_at key.Writes t) ≡ true
  writes_typed = items_typed (value_at key.Writes t) (none_at (is_wrong t) STUB_KEYS 9 w.stub.typed)

  pub stub_own : (s : Stub) → IsStubOf t s → has_own_arguments s ≡ true
  stub_own s h =
      let P : ℕ → Type 0 = λ args. (reply_is_own args s.reply && list_all (write_is_own args) s.writes.items) ≡ true in
      let same : args_of t ≡ s.args = same_Some _ _ (sym args_are ∙ h.args) in
      subst P same
      (and_from (reply_is_own (args_of t) s.reply) (list_all (write_is_own (args_of t)) s.writes.items)
      (reply_own (args_of t) t s.reply w.stub.ranged h.reply) (writes_own (args_of t) (items_at key.Writes t) s.writes.items h.writes w.write_kinds w.write_ranges))

-- Facts of the opcode table, each by one computation over its rows.
use Rattle.std.proofs.Common.{◌≡◌, ℕ, ◌≤◌, List, [], ◌∷◌, Bool, true, false, cond, refl, sym, Option, Some, None, arith}
use Rattle.std.proofs.lemmas.Bool.{and_parts, and_from, leb-true, le-leb, not-true}
use Rattle.std.specs.Prelude.{find, nat_le, not, ◌&&◌, ◌||◌}
use Rattle.std.specs.List.{list_all}
use Rattle.x86_syntax.specs.declared.prefixes.Group.{Group}
use Rattle.x86_syntax.specs.declared.prefixes.Group.TheVariants.{Empty, Lock, Repne, Rep}
use Rattle.x86_syntax.specs.declared.prefixes.Prefixes.{Prefixes}
use Rattle.x86_syntax.specs.declared.table.Map.{Map}
use Rattle.x86_syntax.specs.declared.table.Map.TheVariants.{One, Two, Three}
use Rattle.x86_syntax.specs.declared.table.Row.{Row}
use Rattle.x86_syntax.specs.declared.table.TheConstants.{ROWS}
use Rattle.x86_syntax.specs.Spelling.{row_number_size, is_lock, is_m, is_u, needs_memory, needs_register}
use Rattle.x86_syntax.specs.Opcodes.{is_map, has_code, has_reg, takes_modrm, group_listed, is_listed, has_opcode, has_all, row_of, opcode_row, may_escape, may_escape_twice}

-- what a search finds

find_holds : {X : Type 0} (test : X → Bool) (xs : List X) (x : X) → find test xs ≡ Some x → test x ≡ true
find_holds test [] x found = cc
find_holds {X} test (y ∷ xs) x found =
    let P : Bool → Type 0 = λ b. test y ≡ b → cond b (Some y) (find test xs) ≡ Some x → test x ≡ true in
    (elim (test y) as P [ true ↦ λ e f. (let same : y ≡ x = cc in rw (sym same) e) | false ↦ λ e f. find_holds test xs x f ]) refl found

pub find_all : {X : Type 0} (fact test : X → Bool) (xs : List X) (x : X) → list_all fact xs ≡ true → find test xs ≡ Some x → fact x ≡ true
find_all fact test [] x all found = cc
find_all {X} fact test (y ∷ xs) x all found =
    let P : Bool → Type 0 = λ b. cond b (Some y) (find test xs) ≡ Some x → fact x ≡ true in
    let parts : (fact y ≡ true) × (list_all fact xs ≡ true) = and_parts (fact y) (list_all fact xs) all in
    (elim (test y) as P [ true ↦ λ f. (let same : y ≡ x = cc in rw (sym same) parts.0) | false ↦ λ f. find_all fact test xs x parts.1 f ]) found

-- what another search finds is found where it meets the test
find_again : {X : Type 0} (other test : X → Bool) (xs : List X) (x : X) → find other xs ≡ Some x → test x ≡ true → (y : X) × (find test xs ≡ Some y)
find_again other test [] x found holds = cc
find_again {X} other test (y ∷ xs) x found holds =
    let P : Bool → Type 0 = λ b. test y ≡ b → cond (other y) (Some y) (find other xs) ≡ Some x → (z : X) × (cond b (Some y) (find test xs) ≡ Some z) in
    let Q : Bool → Type 0 = λ b. test y ≡ false → cond b (Some y) (find other xs) ≡ Some x → (z : X) × (find test xs ≡ Some z) in
    (elim (test y) as P [
      | true ↦ λ e f. (y, refl)
      | false ↦ λ e f. (elim (other y) as Q [ true ↦ λ e f. cc | false ↦ λ e f. find_again other test xs x f holds ]) e f
    ]) refl found

find_none : {X : Type 0} (fact test : X → Bool) (xs : List X) → list_all fact xs ≡ true → ((x : X) → fact x ≡ true → test x ≡ true → ⊥) → find test xs ≡ None
find_none {X} fact test xs all apart =
    let P : Option X → Type 0 = λ o. find test xs ≡ o → o ≡ None in
    (elim (find test xs) as P [
      | None ↦ λ e. refl
      | (Some x) ↦ λ e. absurd (apart x (find_all fact test xs x all e) (find_holds test xs x e))
    ]) refl

implied : (a b : Bool) → (not a || b) ≡ true → a ≡ true → b ≡ true
implied true b h e = h
implied false b h e = cc

refuted : (a : Bool) → not a ≡ true → a ≡ true → ⊥
refuted true h e = cc
refuted false h e = cc

code_map : (map : Map) (code : ℕ) (row : Row) → has_code map code row ≡ true → is_map row.map map ≡ true
code_map map code row h =
    (and_parts (is_map row.map map) _ (and_parts _ _ (and_parts _ _ (and_parts _ _ h).0).0).0).0

-- all rows

-- the reg fields are in order and below 8, and LOCK is listed only where a ModRM byte follows
is_well_formed : Row → Bool
is_well_formed row = (nat_le row.low row.high && nat_le row.high 7) && (not row.lock || takes_modrm row)

all_well_formed : list_all is_well_formed ROWS ≡ true
unfolding is_well_formed
all_well_formed = refl

pub row_reg : (p : Prefixes) (map : Map) (code : ℕ) (row : Row) → opcode_row p map code ≡ Some row → (row.low ≤ row.high) × (row.high ≤ 7)
unfolding opcode_row is_well_formed
row_reg p map code row found =
    let good = and_parts _ _ (find_all is_well_formed (has_opcode p map code) ROWS row all_well_formed found) in
    let order = and_parts _ _ good.0 in
    (leb-true row.low row.high order.0, leb-true row.high 7 order.1)

-- some row of the opcode has the first reg field of its first row
pub row_found : (p : Prefixes) (map : Map) (code : ℕ) (row : Row) → opcode_row p map code ≡ Some row → (other : Row) × (row_of p map code row.low ≡ Some other)
unfolding opcode_row row_of
row_found p map code row found =
    let holds = and_parts _ _ (find_holds (has_opcode p map code) ROWS row found) in
    let order = row_reg p map code row found in
    let reg : has_reg row.low row ≡ true = and_from _ _ (le-leb row.low row.low (omega arith)) (le-leb row.low row.high order.0) in
    find_again (has_opcode p map code) (has_all p map code row.low) ROWS row found (and_from _ _ (and_from _ _ holds.0 reg) holds.1)

-- no row wants a register alone and memory alone
is_one_kind : Row → Bool
is_one_kind row = not (is_u row.forms.first) || (not row.lock && not (is_m row.forms.second))

all_one_kind : list_all is_one_kind ROWS ≡ true
unfolding is_one_kind
all_one_kind = refl

one_kind : (group : Group) (row : Row) → group_listed group row ≡ true → not row.lock ≡ true → not (is_m row.forms.second) ≡ true → (is_lock group || is_m row.forms.second) ≡ false
one_kind Lock row listed lock memory = absurd (refuted row.lock lock listed)
one_kind Empty row listed lock memory = not-true (is_m row.forms.second) memory
one_kind Rep row listed lock memory = not-true (is_m row.forms.second) memory
one_kind Repne row listed lock memory = not-true (is_m row.forms.second) memory

pub row_kind : (p : Prefixes) (map : Map) (code reg : ℕ) (row : Row) → row_of p map code reg ≡ Some row → needs_register row ≡ true → needs_memory p row ≡ false
unfolding row_of is_one_kind
row_kind p map code reg row found register =
    let holds = and_parts _ _ (find_holds (has_all p map code reg) ROWS row found) in
    let listed = and_parts _ _ (and_parts _ _ holds.0).0 in
    let kinds = and_parts _ _ (implied (is_u row.forms.first) _ (find_all is_one_kind (has_all p map code reg) ROWS row all_one_kind found) register) in
    one_kind p.group row listed.1 kinds.0 kinds.1

-- rows behind particular prefixes

abbrev pub prefixed : Group → Bool → Option ℕ → Prefixes
prefixed group size segment = record { group = group; segment = segment; size = size }

-- LOCK is listed only where a ModRM byte follows
pub lock_modrm : (size : Bool) (segment : Option ℕ) (map : Map) (code : ℕ) (row : Row) → opcode_row (prefixed Lock size segment) map code ≡ Some row → takes_modrm row ≡ true
unfolding opcode_row is_well_formed
lock_modrm size segment map code row found =
    let p = prefixed Lock size segment in
    let good = and_parts _ _ (find_all is_well_formed (has_opcode p map code) ROWS row all_well_formed found) in
    let listed = (and_parts _ _ (find_holds (has_opcode p map code) ROWS row found)).0 in
    implied row.lock (takes_modrm row) good.1 (and_parts (not size || row.size) row.lock listed).1

is_two_with_modrm : Prefixes → Row → Bool
is_two_with_modrm p row = not (is_listed p row && is_map row.map Two) || takes_modrm row

two_modrm : (p : Prefixes) (code : ℕ) (row : Row) → list_all (is_two_with_modrm p) ROWS ≡ true → opcode_row p Two code ≡ Some row → takes_modrm row ≡ true
unfolding opcode_row is_two_with_modrm
two_modrm p code row all found =
    let holds = and_parts _ _ (find_holds (has_opcode p Two code) ROWS row found) in
    implied _ _ (find_all (is_two_with_modrm p) (has_opcode p Two code) ROWS row all found) (and_from _ _ holds.0 (code_map Two code row holds.1))

-- behind 66 and 0F, and behind F3 and 0F, a ModRM byte follows
pub size_modrm : (segment : Option ℕ) (code : ℕ) (row : Row) → opcode_row (prefixed Empty true segment) Two code ≡ Some row → takes_modrm row ≡ true
unfolding is_two_with_modrm
size_modrm segment code row found = two_modrm (prefixed Empty true segment) code row refl found

pub rep_modrm : (segment : Option ℕ) (code : ℕ) (row : Row) → opcode_row (prefixed Rep false segment) Two code ≡ Some row → takes_modrm row ≡ true
unfolding is_two_with_modrm
rep_modrm segment code row found = two_modrm (prefixed Rep false segment) code row refl found

is_one_or_unlisted : Prefixes → Row → Bool
is_one_or_unlisted p row = not (is_listed p row && not (is_map row.map One))

is_unlisted_three : Prefixes → Row → Bool
is_unlisted_three p row = not (is_listed p row && is_map row.map Three)

one_only : (group : Group) (size : Bool) (segment : Option ℕ) → may_escape group size ≡ false → list_all (is_one_or_unlisted (prefixed group size segment)) ROWS ≡ true
unfolding is_one_or_unlisted
one_only Empty size segment h = cc
one_only Rep false segment h = cc
one_only Rep true segment h = refl
one_only Lock size segment h = cc
one_only Repne false segment h = refl
one_only Repne true segment h = refl

none_three : (group : Group) (size : Bool) (segment : Option ℕ) → may_escape_twice group size ≡ false → list_all (is_unlisted_three (prefixed group size segment)) ROWS ≡ true
unfolding is_unlisted_three
none_three Rep false segment h = cc
none_three Rep true segment h = refl
none_three Empty false segment h = refl
none_three Empty true segment h = refl
none_three Lock false segment h = refl
none_three Lock true segment h = refl
none_three Repne false segment h = refl
none_three Repne true segment h = refl

two_not_one : (map : Map) → is_map map Two ≡ true → not (is_map map One) ≡ true
two_not_one One h = cc
two_not_one Two h = refl
two_not_one Three h = cc

pub two_dead : (group : Group) (size : Bool) (segment : Option ℕ) (code : ℕ) → may_escape group size ≡ false → opcode_row (prefixed group size segment) Two code ≡ None
unfolding opcode_row is_one_or_unlisted
two_dead group size segment code h =
    let p = prefixed group size segment in
    find_none (is_one_or_unlisted p) (has_opcode p Two code) ROWS (one_only group size segment h) (λ row fact holds.
    let parts = and_parts _ _ holds in
    refuted _ fact (and_from _ _ parts.0 (two_not_one row.map (code_map Two code row parts.1))))

pub three_dead : (group : Group) (size : Bool) (segment : Option ℕ) (code : ℕ) → may_escape_twice group size ≡ false → opcode_row (prefixed group size segment) Three code ≡ None
unfolding opcode_row is_unlisted_three
three_dead group size segment code h =
    let p = prefixed group size segment in
    find_none (is_unlisted_three p) (has_opcode p Three code) ROWS (none_three group size segment h) (λ row fact holds.
    let parts = and_parts _ _ holds in
    refuted _ fact (and_from _ _ parts.0 (code_map Three code row parts.1)))

-- a row has at most four bytes behind its address

is_small_number : Bool → Row → Bool
is_small_number size row = nat_le (row_number_size (prefixed Empty size None) row) 4

all_small : (size : Bool) → list_all (is_small_number size) ROWS ≡ true
unfolding is_small_number
all_small true = refl
all_small false = refl

pub opcode_small : (p : Prefixes) (map : Map) (code : ℕ) (row : Row) → opcode_row p map code ≡ Some row → row_number_size p row ≤ 4
unfolding opcode_row is_small_number
opcode_small p map code row found = leb-true (row_number_size p row) 4 (find_all (is_small_number p.size) (has_opcode p map code) ROWS row (all_small p.size) found)

pub row_small : (p : Prefixes) (map : Map) (code reg : ℕ) (row : Row) → row_of p map code reg ≡ Some row → row_number_size p row ≤ 4
unfolding row_of is_small_number
row_small p map code reg row found = leb-true (row_number_size p row) 4 (find_all (is_small_number p.size) (has_all p map code reg) ROWS row (all_small p.size) found)

-- The derived order of marks is the defined one.
use Rattle.std.proofs.Common.{◌≡◌, ℕ, List, [], ◌∷◌, slice_index_or, slice_set, zero, suc, ◌<◌, ◌≤◌, ◌++◌, take, drop, map, length, arith, Option, None, Some, ◌==◌, refl, sym, ◌∙◌, ap, subst}
use Rattle.std.specs.Prelude.{Contains}
use Rattle.std.specs.declared.cmp.Ordering.{Ordering}
use Rattle.std.specs.declared.cmp.Ordering.TheVariants.{Less, Equal, Greater}
use Rattle.std.specs.Option.{option_cmp}
use Rattle.std.specs.Ordering.{nat_cmp, ordering_then}
use Rattle.std.proofs.lemmas.Map.Lookups.{exact_unsigned}
use Rattle.flow_log.specs.declared.cause.Cause.{Cause}
use Rattle.flow_log.specs.declared.cause.Cause.TheVariants.{Bytes, NoStub, Target, Store, Stack, Block, Code, Budget}
use Rattle.flow_log.specs.contracts.cause.CauseOrd.TheImpl as causes
use Rattle.flow_log.specs.contracts.cause.CausePartialEq.TheImpl as equals
use Rattle.flow_log.specs.Ordered.{ordered_set}
use Rattle.flow_log.specs.Orders.{cause_rank}
use Rattle.flow_log.proofs.Ordering.{ordered_set-is, IsSetOf}
use Rattle.flow_log.proofs.Orders.{ordered_set-alike}
use Rattle.automaton_text.specs.declared.automaton.OpenMark.{OpenMark}
use Rattle.automaton_text.specs.contracts.automaton.OpenMarkOrd.TheImpl as marks
use Rattle.automaton_text.specs.Orders.{mark_cmp}
use Rattle.automaton_text.specs.Text.{without_row}

-- what holds of each cause
each : (P : Cause → Type 0) → P Bytes → P NoStub → P Target → P Store → P Stack → P Block → P Code → P Budget → (c : Cause) → P c
each P a b c d e f g h Bytes = a
each P a b c d e f g h NoStub = b
each P a b c d e f g h Target = c
each P a b c d e f g h Store = d
each P a b c d e f g h Stack = e
each P a b c d e f g h Block = f
each P a b c d e f g h Code = g
each P a b c d e f g h Budget = h

abbrev IsRanked : Cause → Cause → Type 0
IsRanked a b = causes.ghosts.cmp a b ≡ nat_cmp (cause_rank a) (cause_rank b)

cause_order : (a b : Cause) → IsRanked a b
cause_order Bytes = each (IsRanked Bytes) refl refl refl refl refl refl refl refl
cause_order NoStub = each (IsRanked NoStub) refl refl refl refl refl refl refl refl
cause_order Target = each (IsRanked Target) refl refl refl refl refl refl refl refl
cause_order Store = each (IsRanked Store) refl refl refl refl refl refl refl refl
cause_order Stack = each (IsRanked Stack) refl refl refl refl refl refl refl refl
cause_order Block = each (IsRanked Block) refl refl refl refl refl refl refl refl
cause_order Code = each (IsRanked Code) refl refl refl refl refl refl refl refl
cause_order Budget = each (IsRanked Budget) refl refl refl refl refl refl refl refl

abbrev IsToldApart : Cause → Cause → Type 0
IsToldApart a b = equals.ghosts.eq a b ≡ (cause_rank a == cause_rank b)

pub cause_equal : (a b : Cause) → IsToldApart a b
cause_equal Bytes = each (IsToldApart Bytes) refl refl refl refl refl refl refl refl
cause_equal NoStub = each (IsToldApart NoStub) refl refl refl refl refl refl refl refl
cause_equal Target = each (IsToldApart Target) refl refl refl refl refl refl refl refl
cause_equal Store = each (IsToldApart Store) refl refl refl refl refl refl refl refl
cause_equal Stack = each (IsToldApart Stack) refl refl refl refl refl refl refl refl
cause_equal Block = each (IsToldApart Block) refl refl refl refl refl refl refl refl
cause_equal Code = each (IsToldApart Code) refl refl refl refl refl refl refl refl
cause_equal Budget = each (IsToldApart Budget) refl refl refl refl refl refl refl refl

-- the cause of a rank
cause_of : ℕ → Cause
cause_of n = slice_index_or (Bytes ∷ NoStub ∷ Target ∷ Store ∷ Stack ∷ Block ∷ Code ∷ []) n Budget

cause_back : (c : Cause) → cause_of (cause_rank c) ≡ c
unfolding cause_of
cause_back = each (λ c. cause_of (cause_rank c) ≡ c) refl refl refl refl refl refl refl refl

ranked_back : (a b : Cause) → cause_rank a ≡ cause_rank b → a ≡ b
ranked_back a b e = sym (cause_back a) ∙ ap cause_of e ∙ cause_back b

mark_order : (a b : OpenMark) → marks.ghosts.cmp a b ≡ mark_cmp a b
mark_order a b = ap (λ r. ordering_then (nat_cmp a.at b.at) (ordering_then r (option_cmp nat_cmp a.row b.row))) (cause_order a.cause b.cause)

then_first : (a b : Ordering) → ordering_then a b ≡ Equal → a ≡ Equal
then_first Less b e = e
then_first Equal b e = refl
then_first Greater b e = e

then_second : (a b : Ordering) → ordering_then a b ≡ Equal → b ≡ Equal
then_second Less b e = cc
then_second Equal b e = e
then_second Greater b e = cc

row_exact : (a b : Option ℕ) → option_cmp nat_cmp a b ≡ Equal → a ≡ b
row_exact None None e = refl
row_exact None (Some y) e = cc
row_exact (Some x) None e = cc
row_exact (Some x) (Some y) e = ap Some (exact_unsigned x y e)

abbrev mark : ℕ → Cause → Option ℕ → OpenMark
mark at cause row = record { at = at; cause = cause; row = row }

pub mark_exact : (a b : OpenMark) → mark_cmp a b ≡ Equal → a ≡ b
mark_exact a b e =
    let rest : ordering_then (nat_cmp (cause_rank a.cause) (cause_rank b.cause)) (option_cmp nat_cmp a.row b.row) ≡ Equal = then_second (nat_cmp a.at b.at) _ e in
    ap (λ n. mark n a.cause a.row) (exact_unsigned a.at b.at (then_first (nat_cmp a.at b.at) _ e))
    ∙ ap (λ c. mark b.at c a.row) (ranked_back a.cause b.cause (exact_unsigned (cause_rank a.cause) (cause_rank b.cause) (then_first (nat_cmp (cause_rank a.cause) (cause_rank b.cause)) _ rest)))
    ∙ ap (λ r. mark b.at b.cause r) (row_exact a.row b.row (then_second (nat_cmp (cause_rank a.cause) (cause_rank b.cause)) _ rest))

pub derived_exact : (a b : OpenMark) → marks.ghosts.cmp a b ≡ Equal → a ≡ b
derived_exact a b e = mark_exact a b (sym (mark_order a b) ∙ e)

pub mark_sets : (xs : List OpenMark) → ordered_set marks.ghosts.cmp xs ≡ ordered_set mark_cmp xs
mark_sets xs = ordered_set-alike marks.ghosts.cmp mark_cmp mark_order xs

-- each mark is in the set of marks
pub Contains-mark_set : (xs : List OpenMark) (m : OpenMark) → Contains xs m → Contains (ordered_set mark_cmp xs) m
Contains-mark_set xs m held =
    let is : IsSetOf marks.ghosts.cmp marks.Laws.total-law (record { same = derived_exact }) xs (ordered_set marks.ghosts.cmp xs) =
    ordered_set-is marks.ghosts.cmp marks.Laws.total-law (record { same = derived_exact }) xs in
    let P : List OpenMark → Type 0 = λ l. Contains l m in
    subst P (mark_sets xs) (is.kept m held)

-- the first marks of a list without their rows
abbrev pub cleared : ℕ → List OpenMark → List OpenMark
cleared n marks = map without_row (take n marks) ++ drop n marks

pub cleared_more : (n : ℕ) (marks : List OpenMark) (d : OpenMark) → n < length marks → slice_set (cleared n marks) n (without_row (slice_index_or (cleared n marks) n d)) ≡ cleared (suc n) marks
cleared_more n [] d below = let never : ⊥ = omega arith in absurd never
cleared_more zero (m ∷ marks) d below = refl
cleared_more (suc n) (m ∷ marks) d below = ap (λ rest. without_row m ∷ rest) (cleared_more n marks d (omega arith))

pub cleared_whole : (n : ℕ) (marks : List OpenMark) → length marks ≤ n → cleared n marks ≡ map without_row marks
cleared_whole zero [] all = refl
cleared_whole (suc n) [] all = refl
cleared_whole zero (m ∷ marks) all = let never : ⊥ = omega arith in absurd never
cleared_whole (suc n) (m ∷ marks) all = ap (λ rest. without_row m ∷ rest) (cleared_whole n marks (omega arith))

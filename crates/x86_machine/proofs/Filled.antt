-- Memory with bytes filled in, range by range.
use Rattle.std.proofs.Common.{◌≡◌, ℕ, ◌+◌, ◌-◌, ◌<◌, Bool, true, cond, List, [], ◌∷◌, map, length, get_or, refl, sym, ◌∙◌, ap, subst, arith, inl, inr}
use Rattle.std.specs.Prelude.{◌⊎◌, fold, slice_set}
use Rattle.std.proofs.lemmas.Bool.{cases_eq, cond_both}
use Rattle.std.proofs.lemmas.List.{ext_get_or, get_or-set_other, get_or-set_same, map-id}
use Rattle.memory_map.specs.Range.{Mapping, Range, has, mapping_of}
use Rattle.memory_map.specs.State.{MachineState}
use Rattle.memory_map.proofs.Mappings.{is_in}
use Rattle.statement_lang.specs.Filling.{fill_byte, with_filled}
use Rattle.statement_lang.proofs.Indexing.{fill-mapping, has_in}
use Rattle.x86_machine.specs.Started.{with_fills}

-- a range with bytes filled in, one after another
abbrev pub filled : List (ℕ × ℕ) → Range → Range
filled list r = fold (λ s at. fill_byte at.0 at.1 s) r list

map_map : {X Y Z : Type 0} (f : Y → Z) (g : X → Y) (xs : List X) → map f (map g xs) ≡ map (λ x. f (g x)) xs
map_map f g [] = refl
map_map f g (x ∷ xs) = ap (λ l. f (g x) ∷ l) (map_map f g xs)

pub fills_each : (list : List (ℕ × ℕ)) (m : MachineState) → with_fills list m ≡ record m { stack = filled list m.stack; ranges = map (filled list) m.ranges }
fills_each [] m = ap (λ l. record m { ranges = l }) (sym (map-id m.ranges))
fills_each (at ∷ list) m =
    fills_each list (with_filled at.0 at.1 m)
    ∙ ap (λ l. record m { stack = filled list (fill_byte at.0 at.1 m.stack); ranges = l }) (map_map (filled list) (fill_byte at.0 at.1) m.ranges)

pub filled-mapping : (list : List (ℕ × ℕ)) (r : Range) → mapping_of (filled list r) ≡ mapping_of r
filled-mapping [] r = refl
filled-mapping (at ∷ list) r = filled-mapping list (fill_byte at.0 at.1 r) ∙ fill-mapping at.0 at.1 r

-- ---- which bytes change

pub fill-here : (a b : ℕ) (r : Range) (i : ℕ) → r.low + i ≡ a → i < length r.bytes → get_or (fill_byte a b r).bytes i 0 ≡ b
fill-here a b r i at within =
    let own : has a r ≡ true = has_in r a (omega (arith, at)) (omega (arith, at, within)) in
    let same : a - r.low ≡ i = omega (arith, at) in
    ap (λ t. get_or (cond t (record r { bytes = slice_set r.bytes (a - r.low) b }) r).bytes i 0) own
    ∙ ap (λ k. get_or (slice_set r.bytes k b) i 0) same
    ∙ get_or-set_same r.bytes i b 0 within

pub fill-other : (a b : ℕ) (r : Range) (i : ℕ) → (r.low + i ≡ a → ⊥) → get_or (fill_byte a b r).bytes i 0 ≡ get_or r.bytes i 0
fill-other a b r i off =
    cond_both (has a r) (record r { bytes = slice_set r.bytes (a - r.low) b }) r (λ s. get_or s.bytes i 0 ≡ get_or r.bytes i 0)
    (λ e. (let own = is_in r a e in let low = own.low in get_or-set_other r.bytes (a - r.low) i b 0 (λ same. off (omega (arith, same, low))))) (λ e. refl)

-- an address is among those that are filled in
abbrev pub IsFilledIn : List (ℕ × ℕ) → ℕ → Type 0
IsFilledIn [] a = ⊥
IsFilledIn (at ∷ list) a = (at.0 ≡ a) ⊎ IsFilledIn list a

-- a byte at no such address stays
pub filled-other : (list : List (ℕ × ℕ)) (r : Range) (i : ℕ) → (IsFilledIn list (r.low + i) → ⊥) → get_or (filled list r).bytes i 0 ≡ get_or r.bytes i 0
filled-other [] r i off = refl
filled-other (at ∷ list) r i off =
    let low : (fill_byte at.0 at.1 r).low ≡ r.low = ap (λ (k : Mapping). k.low) (fill-mapping at.0 at.1 r) in
    let P : ℕ → Type 0 = λ n. IsFilledIn list (n + i) → ⊥ in
    filled-other list (fill_byte at.0 at.1 r) i (subst P (sym low) (λ h. off (inr h)))
    ∙ fill-other at.0 at.1 r i (λ same. off (inl (sym same)))

-- each byte that is filled in is that of another range at its address
abbrev pub AgreesWith : Range → List (ℕ × ℕ) → Type 0
AgreesWith t [] = Unit {0}
AgreesWith t (at ∷ list) = ((i : ℕ) → t.low + i ≡ at.0 → i < length t.bytes → at.1 ≡ get_or t.bytes i 0) × AgreesWith t list

-- at a place of two ranges either they have the same byte, or one is filled in
abbrev pub IsSameOrFilled : List (ℕ × ℕ) → Range → Range → ℕ → Type 0
IsSameOrFilled list r t i = (get_or r.bytes i 0 ≡ get_or t.bytes i 0) ⊎ IsFilledIn list (r.low + i)

same_range : (r t : Range) → mapping_of r ≡ mapping_of t → r.bytes ≡ t.bytes → r ≡ t
same_range r t same bytes =
    ap (λ (l : ℕ). record r { low = l }) (ap (λ (k : Mapping). k.low) same)
    ∙ ap (λ (b : List ℕ). record { low = t.low; bytes = b; write = r.write; execute = r.execute }) bytes
    ∙ ap (λ (b : Bool). record { low = t.low; bytes = t.bytes; write = b; execute = r.execute }) (ap (λ (k : Mapping). k.write) same)
    ∙ ap (λ (b : Bool). record { low = t.low; bytes = t.bytes; write = t.write; execute = b }) (ap (λ (k : Mapping). k.execute) same)

-- bytes that agree with a range lead to it, where they are all in which it differs
pub filled_leads : (list : List (ℕ × ℕ)) (r t : Range) → mapping_of r ≡ mapping_of t → AgreesWith t list → ((i : ℕ) → i < length t.bytes → IsSameOrFilled list r t i) → filled list r ≡ t
filled_leads [] r t same agrees each =
    let size : length r.bytes ≡ length t.bytes = ap (λ (k : Mapping). k.size) same in
    same_range r t same (ext_get_or 0 r.bytes t.bytes size (λ i within. elim (each i (omega (arith, within, size))) [ inl e ↦ e | inr h ↦ absurd h ]))
filled_leads (at ∷ list) r t same agrees each =
    let next = fill_byte at.0 at.1 r in
    let kept = fill-mapping at.0 at.1 r in
    let low : next.low ≡ r.low = ap (λ (k : Mapping). k.low) kept in
    let lows : r.low ≡ t.low = ap (λ (k : Mapping). k.low) same in
    let size : length r.bytes ≡ length t.bytes = ap (λ (k : Mapping). k.size) same in
    filled_leads list next t (kept ∙ same) agrees.1 (λ i within. elim (cases_eq (r.low + i) at.0) [
      | inl here ↦ inl (fill-here at.0 at.1 r i here (omega (arith, within, size)) ∙ agrees.0 i (omega (arith, here, lows)) within)
      | inr off ↦ elim (each i within) [
        | inl e ↦ inl (fill-other at.0 at.1 r i off ∙ e)
        | inr (inl head) ↦ absurd (off (sym head))
        | inr (inr rest) ↦ (let P : ℕ → Type 0 = λ n. IsFilledIn list (n + i) in inr (subst P (sym low) rest))
      ]
    ])

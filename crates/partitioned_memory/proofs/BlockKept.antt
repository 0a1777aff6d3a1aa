-- A further block, against a description.
use Rattle.std.proofs.Common.{◌≡◌, ℕ, Bool, true, false, cond, List, [], ◌∷◌, map, Option, Some, None, refl, sym, ap, ◌∙◌, subst, ℤ, inl, inr}
use Rattle.std.specs.Prelude.{◌||◌, ◌&&◌, ◌⊎◌, not}
use Rattle.std.specs.List.{list_any}
use Rattle.std.proofs.lemmas.Bool.{false≢true, and_parts, or_cases, or_left, or_right, not-true, cases_eq, cases_Bool}
use Rattle.memory_map.specs.declared.span.Span.{Span}
use Rattle.memory_map.specs.Range.{Range}
use Rattle.address_regions.specs.declared.region.Region.{Region}
use Rattle.address_regions.specs.declared.region.Region.TheVariants.{Stack, Fs, Gs, Block}
use Rattle.address_regions.specs.Extents.{block_of, has_one_base, is_in_extent}
use Rattle.address_regions.specs.Places.{KeepsBases, Places, HasBase, IsValid, place_at}
use Rattle.address_regions.specs.Same.{same_region}
use Rattle.address_regions.proofs.RegionLaws.{same_region-is, same_region-refl}
use Rattle.domain_laws.specs.Laws.{IsLawful, Values}
use Rattle.domain_laws.specs.Reached.{named}
use Rattle.partitioned_memory.specs.declared.area.Area.{Area}
use Rattle.partitioned_memory.specs.declared.area.Area.TheVariants.{Image, In}
use Rattle.partitioned_memory.specs.declared.fact.Fact.{Fact}
use Rattle.partitioned_memory.specs.declared.fact.Counted.{Counted}
use Rattle.partitioned_memory.specs.Areas.{block_in, has_byte, same_area}
use Rattle.partitioned_memory.specs.Lists.{Every, placed}
use Rattle.partitioned_memory.specs.Held.{PartsHeld, after_block, count_before, counted_again, counted_more, facts_beside, facts_outside, interval_of_fact, is_counted, known_byte, one_block}
use Rattle.partitioned_memory.specs.Well.{HasCount, IsWell, IsWellFact}
use Rattle.partitioned_memory.specs.Describes.{AreBytes, GainsBlock, IsApart, IsDescribed, IsFresh, IsTrueOf, StartsAt, counts_one, is_byte_of, number_in}
use Rattle.partitioned_memory.proofs.ListLaws.{Every-both, Every-filter, Every-kept, Every-weaker}
use Rattle.partitioned_memory.proofs.Orders.{same_area-is, same_area-refl}
use Rattle.partitioned_memory.proofs.Bytes.{IsWrite, byte-from, byte-kept, first-zero, known-is, number-kept}

-- ---- regions that are told apart

same-or-not : (s r : Region) → (s ≡ r) ⊎ (s ≡ r → ⊥)
same-or-not s r =
    elim (cases_Bool (same_region s r)) [
      | inl e ↦ inl (same_region-is s r e)
      | inr e ↦ inr (λ k. false≢true (sym e ∙ ap (λ z. same_region z r) k ∙ same_region-refl r))
    ]

block-named : (r : Region) → has_one_base r ≡ false → block_of r ≡ Some r
block-named Stack e = absurd (false≢true (sym e))
block-named Fs e = absurd (false≢true (sym e))
block-named Gs e = absurd (false≢true (sym e))
block-named (Block site size zeroed) e = refl

-- ---- bases

-- an area that is not the region starts where it did
starts-back : (r : Region) (had : Bool) (base : ℕ) (p q : Places) (a : Area) (x : ℕ) → GainsBlock r had base p q → (a ≡ In r → ⊥) → StartsAt q a x → StartsAt p a x
starts-back r had base p q Image x g differs s = s
starts-back r had base p q (In k) x g differs s = (g.others k x (λ e. differs (ap In e))).0 s

-- every base of a counted region stays
keeps-bases : (r : Region) (base : ℕ) (p q : Places) (blocks : List Counted) (o : Option Region) → GainsBlock r (is_counted r blocks) base p q → HasCount blocks o → KeepsBases o p q
keeps-bases r base p q blocks None g h = tt
keeps-bases r base p q blocks (Some s) g h = λ x has.
    elim (same-or-not s r) [
      | inl e ↦
          let counted : is_counted r blocks ≡ true = subst (λ (k : Region). is_counted k blocks ≡ true) e h in
          subst (λ (k : Region). HasBase q k x) (sym e) ((g.own x).1 (inr (counted, subst (λ (k : Region). HasBase p k x) e has)))
      | inr differs ↦ (g.others s x differs).1 has
    ]

-- ---- counts

again-many : (r : Region) (c : Counted) → (same_region (counted_again r c).region r && not (counted_again r c).many) ≡ false
again-many r c =
    elim (same_region c.region r) as (λ t. same_region c.region r ≡ t → (let k : Counted = cond t (record { region = c.region; many = true }) c in same_region k.region r && not k.many) ≡ false) [
      | true ↦ λ e. ap (λ t. t && false) e
      | false ↦ λ e. ap (λ t. t && not c.many) e
    ] refl

-- a region counts many once it had a count
none-one : (r : Region) (blocks : List Counted) → counts_one r (map (counted_again r) blocks) ≡ false
none-one r [] = refl
none-one r (c ∷ cs) = ap (λ t. t || counts_one r (map (counted_again r) cs)) (again-many r c) ∙ none-one r cs

again-other : (r s : Region) (c : Counted) → (s ≡ r → ⊥) → (same_region (counted_again r c).region s && not (counted_again r c).many) ≡ true → (same_region c.region s && not c.many) ≡ true
again-other r s c differs e =
    elim (same_region c.region r) as (λ t. same_region c.region r ≡ t → (let k : Counted = cond t (record { region = c.region; many = true }) c in same_region k.region s && not k.many) ≡ true → (same_region c.region s && not c.many) ≡ true) [
      | true ↦ λ k f.
          let own = and_parts (same_region c.region s) false f in
          absurd (differs (sym (same_region-is c.region s own.0) ∙ same_region-is c.region r k))
      | false ↦ λ k f. f
    ] refl e

others-again : (r s : Region) (blocks : List Counted) → (s ≡ r → ⊥) → counts_one s (map (counted_again r) blocks) ≡ true → counts_one s blocks ≡ true
others-again r s [] differs e = e
others-again r s (c ∷ cs) differs e =
    elim (or_cases (same_region (counted_again r c).region s && not (counted_again r c).many) (counts_one s (map (counted_again r) cs)) e) [
      | inl x ↦ or_left (same_region c.region s && not c.many) (counts_one s cs) (again-other r s c differs x)
      | inr x ↦ or_right (same_region c.region s && not c.many) (counts_one s cs) (others-again r s cs differs x)
    ]

-- an element that fails a test adds nothing to it
any-beside : {X : Type 0} (t : X → Bool) (before : X → X → Bool) (y : X) (xs : List X) → t y ≡ false → list_any t (placed before y xs) ≡ true → list_any t xs ≡ true
any-beside t before y [] f e = absurd (false≢true (sym (ap (λ b. b || false) f) ∙ e))
any-beside t before y (x ∷ xs) f e =
    elim (before x y) as (λ b. list_any t (cond b (x ∷ placed before y xs) (y ∷ x ∷ xs)) ≡ true → list_any t (x ∷ xs) ≡ true) [
      | true ↦ λ k. elim (or_cases (t x) (list_any t (placed before y xs)) k) [
        | inl q ↦ or_left (t x) (list_any t xs) q
        | inr q ↦ or_right (t x) (list_any t xs) (any-beside t before y xs f q)
      ]
      | false ↦ λ k. sym (ap (λ b. b || list_any t (x ∷ xs)) f) ∙ k
    ] e

other-one : (r s : Region) (blocks : List Counted) → (s ≡ r → ⊥) → counts_one s (counted_more r blocks) ≡ true → counts_one s blocks ≡ true
other-one r s blocks differs e =
    elim (is_counted r blocks) as (λ b. counts_one s (cond b (map (counted_again r) blocks) (placed count_before (one_block r) blocks)) ≡ true → counts_one s blocks ≡ true) [
      | true ↦ λ k. others-again r s blocks differs k
      | false ↦ λ k. any-beside (λ c. same_region c.region s && not c.many) count_before (one_block r) blocks (elim (cases_Bool (same_region r s)) [ inl q ↦ absurd (differs (sym (same_region-is r s q))) | inr q ↦ ap (λ t. t && true) q ]) k
    ] e

-- where the region counts One now, it had no count
own-one : (r : Region) (blocks : List Counted) → counts_one r (counted_more r blocks) ≡ true → is_counted r blocks ≡ false
own-one r blocks e =
    elim (is_counted r blocks) as (λ b. counts_one r (cond b (map (counted_again r) blocks) (placed count_before (one_block r) blocks)) ≡ true → b ≡ false) [
      | true ↦ λ k. absurd (false≢true (sym (none-one r blocks) ∙ k))
      | false ↦ λ k. refl
    ] e

-- ---- facts

-- a fact of another area, whose value stays the same
record IsApartFrom {D : Type 0} (d : Values D) (blocks : List Counted) (r : Region) (ranges : List Range) (p : Places) (b : ℕ → ℕ) (f : Fact D) : Type 0 where
  pub other : f.area ≡ In r → ⊥
  pub counted : HasCount blocks (named (d.reach f.value))
  pub true_of : IsTrueOf d p b f
  pub bytes : AreBytes ranges (interval_of_fact f)

fact-moved : {D : Type 0} (d : Values D) (laws : IsLawful d) (blocks : List Counted) (ranges : List Range) (p q : Places) (r : Region) (base : ℕ) (b c : ℕ → ℕ) (f : Fact D) → IsValid p → IsValid q → GainsBlock r (is_counted r blocks) base p q → IsWrite ranges q (In r) base (is_in_extent r) b c → IsApartFrom d blocks r ranges p b f → IsTrueOf d q c f
fact-moved d laws blocks ranges p q r base b c f valid new g w h =
    λ other s.
    let same = number-kept b c other f.low f.w (λ o low high.
    let own : has_byte (interval_of_fact f) f.area o ≡ true = byte-from (interval_of_fact f) f.area o (record { area = refl; low = low; high = high }) in
    byte-kept ranges q (In r) base (is_in_extent r) b c w f.area other o s (h.bytes.each o own) (λ k _ _. h.other k)) in
    let before = h.true_of other (starts-back r (is_counted r blocks) base p q f.area other g h.other s) in
    let now = subst (λ (n : ℕ). d.stands f.value p n) (sym same) before in
    laws.moves f.value p q (number_in c other f.low f.w) valid new g.windows (keeps-bases r base p q blocks (named (d.reach f.value)) g h.counted) now

-- the facts that are left are of other areas
facts-apart : {D : Type 0} (d : Values D) (ranges : List Range) (p : Places) (b : ℕ → ℕ) (r : Region) (blocks : List Counted) (facts : List (Fact D)) → has_one_base r ≡ false → Every (IsWellFact d blocks) facts → Every (IsTrueOf d p b) facts → Every (λ f. AreBytes ranges (interval_of_fact f)) facts → Every (IsApartFrom d blocks r ranges p b) (facts_beside r blocks facts)
facts-apart {D} d ranges p b r blocks facts block well truth bytes =
    let Known : Fact D → Type 0 = λ f. IsWellFact d blocks f × IsTrueOf d p b f × AreBytes ranges (interval_of_fact f) in
    let pair = Every-both (IsTrueOf d p b) (λ f. AreBytes ranges (interval_of_fact f)) (λ f. IsTrueOf d p b f × AreBytes ranges (interval_of_fact f)) facts (λ f k l. (k, l)) truth bytes in
    let all = Every-both (IsWellFact d blocks) (λ f. IsTrueOf d p b f × AreBytes ranges (interval_of_fact f)) Known facts (λ f k l. (k, l.0, l.1)) well pair in
    elim (is_counted r blocks) as (λ t. is_counted r blocks ≡ t → Every (IsApartFrom d blocks r ranges p b) (cond t (facts_outside r facts) facts)) [
      | true ↦ λ e.
          Every-both (λ f. not (same_area f.area (In r)) ≡ true) Known (IsApartFrom d blocks r ranges p b) (facts_outside r facts)
          (λ f k l. record {
            other = λ s. false≢true (sym (not-true (same_area f.area (In r)) k) ∙ ap (λ z. same_area z (In r)) s ∙ same_area-refl (In r));
            counted = l.0.holds.counted;
            true_of = l.1;
            bytes = l.2;
          })
          (Every-kept (λ f. not (same_area f.area (In r))) facts)
          (Every-filter Known (λ f. not (same_area f.area (In r))) facts all)
      | false ↦ λ e.
          Every-weaker Known (IsApartFrom d blocks r ranges p b) facts
          (λ f l. record {
            other = λ s.
                let counted : HasCount blocks (Some r) = subst (HasCount blocks) (ap block_in s ∙ block-named r block) l.0.counted in
                false≢true (sym e ∙ counted);
            counted = l.0.holds.counted;
            true_of = l.1;
            bytes = l.2;
          })
          all
    ] refl

-- ---- the call

-- without a count before, the new base is the only one
only-new : (r : Region) (had : Bool) (base : ℕ) (p q : Places) (x : ℕ) → had ≡ false → GainsBlock r had base p q → HasBase q r x → x ≡ base
only-new r had base p q x none g h =
    elim ((g.own x).0 h) [ inl e ↦ e | inr k ↦ absurd (false≢true (sym none ∙ k.0)) ]

-- the bytes that are known, in a block of the region at some base
own-clean : {D : Type 0} (d : Values D) (ranges : List Range) (unset : List Span) (p q : Places) (b c : ℕ → ℕ) (h : PartsHeld D) (r : Region) (base : ℕ) → GainsBlock r (is_counted r h.blocks) base p q → IsWrite ranges q (In r) base (is_in_extent r) b c → IsFresh r base b c → IsDescribed d ranges unset p h b → (other : ℕ) (o : ℤ) (n : ℕ) → HasBase q r other → is_in_extent r o ≡ true → known_byte ranges unset h.dirty (In r) o ≡ Some n → c (place_at other o) ≡ n
own-clean d ranges unset p q b c h r base g w fresh x other o n s e known =
    elim (cases_eq other base) [
      | inl same ↦
          let k = known-is ranges unset h.dirty (In r) o n known in
          let zero = first-zero ranges unset r o n k.first in
          ap (λ z. c (place_at z o)) same ∙ fresh.zeroed zero.0 o e ∙ sym zero.1
      | inr differs ↦
          elim ((g.own other).0 s) [
            | inl same ↦ absurd (differs same)
            | inr had ↦ byte-kept ranges q (In r) base (is_in_extent r) b c w (In r) other o s e (λ _ same _. differs same) ∙ x.clean (In r) other o n had.1 e known
          ]
    ]

block-clean : {D : Type 0} (d : Values D) (ranges : List Range) (unset : List Span) (p q : Places) (b c : ℕ → ℕ) (h : PartsHeld D) (r : Region) (base : ℕ) → GainsBlock r (is_counted r h.blocks) base p q → IsWrite ranges q (In r) base (is_in_extent r) b c → IsFresh r base b c → IsDescribed d ranges unset p h b → (a : Area) (other : ℕ) (o : ℤ) (n : ℕ) → StartsAt q a other → is_byte_of ranges a o ≡ true → known_byte ranges unset h.dirty a o ≡ Some n → c (place_at other o) ≡ n
block-clean d ranges unset p q b c h r base g w fresh x a other o n s e known =
    elim (cases_Bool (same_area a (In r))) [
      | inl t ↦
          let same = same_area-is a (In r) t in
          own-clean d ranges unset p q b c h r base g w fresh x other o n (subst (λ (k : Area). StartsAt q k other) same s) (subst (λ (k : Area). is_byte_of ranges k o ≡ true) same e) (subst (λ (k : Area). known_byte ranges unset h.dirty k o ≡ Some n) same known)
      | inr t ↦
          let differs : a ≡ In r → ⊥ = λ k. false≢true (sym t ∙ ap (λ z. same_area z (In r)) k ∙ same_area-refl (In r)) in
          byte-kept ranges q (In r) base (is_in_extent r) b c w a other o s e (λ k _ _. differs k)
          ∙ x.clean a other o n (starts-back r (is_counted r h.blocks) base p q a other g differs s) e known
    ]

pub block-keeps : {D : Type 0} (d : Values D) (laws : IsLawful d) (ranges : List Range) (unset : List Span) (p q : Places) (b c : ℕ → ℕ) (h : PartsHeld D) (r : Region) (base : ℕ) → has_one_base r ≡ false → IsWell d h → IsValid p → IsValid q → GainsBlock r (is_counted r h.blocks) base p q → IsApart ranges q → IsFresh r base b c → IsDescribed d ranges unset p h b → IsDescribed d ranges unset q (after_block r h) c
block-keeps {D} d laws ranges unset p q b c h r base block well valid new g apart fresh x =
    let w : IsWrite ranges q (In r) base (is_in_extent r) b c = record { apart = apart; starts = (g.own base).1 (inl refl); bytes = λ o e. e; written = fresh.others } in
    let facts = facts-apart d ranges p b r h.blocks h.facts block well.facts x.facts x.within in
    record {
      facts = Every-weaker (IsApartFrom d h.blocks r ranges p b) (IsTrueOf d q c) (facts_beside r h.blocks h.facts) (λ f k. fact-moved d laws h.blocks ranges p q r base b c f valid new g w k) facts;
      within = Every-weaker (IsApartFrom d h.blocks r ranges p b) (λ f. AreBytes ranges (interval_of_fact f)) (facts_beside r h.blocks h.facts) (λ f k. k.bytes) facts;
      clean = λ a other o n s e known. block-clean d ranges unset p q b c h r base g w fresh x a other o n s e known;
      single = λ s first second one f k.
          elim (same-or-not s r) [
            | inl e ↦
                let none = own-one r h.blocks (subst (λ (z : Region). counts_one z (counted_more r h.blocks) ≡ true) e one) in
                only-new r (is_counted r h.blocks) base p q first none g (subst (λ (z : Region). HasBase q z first) e f)
                ∙ sym (only-new r (is_counted r h.blocks) base p q second none g (subst (λ (z : Region). HasBase q z second) e k))
            | inr differs ↦ x.single s first second (other-one r s h.blocks differs one) ((g.others s first differs).0 f) ((g.others s second differs).0 k)
          ];
    }

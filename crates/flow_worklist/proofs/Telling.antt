-- What a covering state tells of numbers, its states tell too, or they do not tell.
use Rattle.std.proofs.Common.{◌≡◌, ℕ, Bool, true, false, cond, List, [], ◌∷◌, map, Option, Some, None, refl, sym, ◌∙◌, ap, subst, ◌==◌, inl, inr, arith, ℤ, fold, find, option_map, ◌⊎◌, ◌&&◌}
use Rattle.std.specs.List.{list_all}
use Rattle.std.proofs.lemmas.Bool.{and_parts, eqb-true}
use Rattle.std.proofs.lemmas.Int.{ints}
use Rattle.bit_words.specs.Width.{bytes_of}
use Rattle.bit_words.specs.declared.width.Width.{Width}
use Rattle.memory_map.specs.declared.registers.Regs.{Regs}
use Rattle.memory_map.specs.Registers.{register}
use Rattle.address_regions.specs.Places.{HasBase, IsAllowed, IsValid, Places}
use Rattle.address_regions.specs.declared.region.Region.{Region}
use Rattle.address_regions.specs.declared.region.Region.TheVariants.{Stack, Fs, Gs, Block}
use Rattle.domain_laws.specs.Laws.{Values, IsLawful}
use Rattle.partitioned_memory.specs.declared.area.Area.{Area}
use Rattle.partitioned_memory.specs.declared.fact.Fact.{Fact}
use Rattle.partitioned_memory.specs.declared.fact.Held.{Held}
use Rattle.partitioned_memory.specs.declared.fact.Spot.{Spot}
use Rattle.partitioned_memory.specs.Held.{covers_count, covers_fact, covers_held, fact_at, found, is_at, lies_in, pair_of_fact, value_below, value_of_width}
use Rattle.partitioned_memory.specs.Lists.{Ascends}
use Rattle.partitioned_memory.specs.Pairs.{pair_before, value_at}
use Rattle.partitioned_memory.proofs.PutSpots.{covered-at, found-at}
use Rattle.abstract_state.specs.declared.seen.Holder.{Holder}
use Rattle.abstract_state.specs.declared.seen.Holder.TheVariants.{Register, Bytes}
use Rattle.abstract_state.specs.Flags.{covers_flags}
use Rattle.abstract_state.specs.Notes.{covers_note}
use Rattle.abstract_state.specs.Registers.{covers_registers}
use Rattle.abstract_state.specs.State.{Known, covers_state}
use Rattle.abstract_state.specs.Widening.{holder_of}
use Rattle.abstract_state.proofs.Covering.{first, rest}
use Rattle.abstract_state.proofs.Seeing.{same_holder-is}
use Rattle.flow_worklist.specs.declared.told.Told.{Told}
use Rattle.flow_worklist.specs.declared.told.Told.TheVariants.{Numbers, Nothing, Unclear}
use Rattle.flow_worklist.specs.Telling.{digest_with, held_at, told_at, told_more, told_number, told_value}

-- ---- there are valid places

some_places : Places
some_places = record { align = 4; stack = 0x80000000; fs = 0x10000; gs = 0x20000; blocks = [] }

some-allowed : (r : Region) (b : ℕ) → HasBase some_places r b → IsAllowed r b
unfolding some_places
some-allowed Stack b e = record { low = omega (arith, ints); high = omega (arith, ints) }
some-allowed Fs b e = record { low = omega (arith, ints); high = omega (arith, ints) }
some-allowed Gs b e = record { low = omega (arith, ints); high = omega (arith, ints) }
some-allowed (Block site size zeroed) b e = absurd (omega (arith, e.1))

some-valid : IsValid some_places
unfolding some_places
some-valid = record {
  alignment = refl;
  aligned = refl;
  allowed = some-allowed;
}

-- ---- lists

pub facts-back : {D : Type 0} (facts : List (Fact D)) → map fact_at (map pair_of_fact facts) ≡ facts
facts-back [] = refl
facts-back (f ∷ facts) = ap (λ l. f ∷ l) (facts-back facts)

-- the second tells what the first does, or does not tell; the first tells of all places, or this says nothing
Agrees : Told → Told → Type 0
Agrees (Numbers digest) y = (y ≡ Numbers digest) ⊎ (y ≡ Unclear)
Agrees Nothing y = Unit {0}
Agrees Unclear y = Unit {0}

agrees-unclear : (x : Told) → Agrees x Unclear
unfolding Agrees
agrees-unclear (Numbers digest) = inr refl
agrees-unclear Nothing = tt
agrees-unclear Unclear = tt

module _ {D : Type 0} (d : Values D) (l : IsLawful d) where
  -- ---- values

  -- a value below one that has a number has no other number
  number-below : (a b : D) (n m : ℕ) → d.leq a b ≡ true → d.number_of b ≡ Some n → d.number_of a ≡ Some m → m ≡ n
  number-below a b n m below is has =
      l.number_of_alone b n some_places m some-valid is (l.leq_stands a b some_places m some-valid below (l.number_of_stands a m some_places some-valid has))

  -- and it does not stand for every number
  rank-below : (a b : D) (n : ℕ) → d.leq a b ≡ true → d.number_of b ≡ Some n → d.rank a ≡ 0 → ⊥
  rank-below a b n below is none =
      let only : (x : ℕ) → x ≡ n = λ x. l.number_of_alone b n some_places x some-valid is (l.leq_stands a b some_places x some-valid below (l.rank_zero a some_places x some-valid none)) in
      let zero_is : 0 ≡ n = only 0 in
      let one_is : 1 ≡ n = only 1 in
      omega arith

  rank-by : (digest : ℕ) (a b : D) (n : ℕ) (r : Bool) → d.leq a b ≡ true → d.number_of b ≡ Some n → (d.rank a == 0) ≡ r → Agrees (Numbers (digest_with digest n)) (cond r Nothing Unclear)
  unfolding Agrees
  rank-by digest a b n true below is r = absurd (rank-below a b n below is (eqb-true (d.rank a) 0 r))
  rank-by digest a b n false below is r = inr refl

  number-by : (digest : ℕ) (a b : D) (n : ℕ) (o : Option ℕ) → d.leq a b ≡ true → d.number_of b ≡ Some n → d.number_of a ≡ o → Agrees (Numbers (digest_with digest n)) (told_number d digest a o)
  unfolding Agrees
  number-by digest a b n (Some m) below is has = inl (ap (λ x. Numbers (digest_with digest x)) (number-below a b n m below is has))
  number-by digest a b n None below is has = rank-by digest a b n (d.rank a == 0) below is refl

  told-by : (digest : ℕ) (a b : D) (o : Option ℕ) → d.leq a b ≡ true → d.number_of b ≡ o → Agrees (told_number d digest b o) (told_value d digest (Some a))
  unfolding Agrees
  told-by digest a b (Some n) below is = number-by digest a b n (d.number_of a) below is refl
  told-by digest a b None below is = none (d.rank b == 0)
    where
      none : (r : Bool) → Agrees (cond r Nothing Unclear) (told_value d digest (Some a))
      none true = tt
      none false = tt

  -- ---- registers

  cond-below : (b : Bool) (x y v w : D) → d.leq x y ≡ true → d.leq v w ≡ true → d.leq (cond b x v) (cond b y w) ≡ true
  cond-below true x y v w e h = e
  cond-below false x y v w e h = h

  register-below : (r : ℕ) (t s : Regs D) → covers_registers d t s ≡ true → d.leq (register s r) (register t r) ≡ true
  unfolding register
  register-below r t s e =
      let e1 = first _ _ e in let e2 = first _ _ e1 in let e3 = first _ _ e2 in let e4 = first _ _ e3 in let e5 = first _ _ e4 in let e6 = first _ _ e5 in
      cond-below (r == 0) s.eax t.eax _ _ (first _ _ e6)
      (cond-below (r == 1) s.ecx t.ecx _ _ (rest _ _ e6)
      (cond-below (r == 2) s.edx t.edx _ _ (rest _ _ e5)
      (cond-below (r == 3) s.ebx t.ebx _ _ (rest _ _ e4)
      (cond-below (r == 4) s.esp t.esp _ _ (rest _ _ e3)
      (cond-below (r == 5) s.ebp t.ebp _ _ (rest _ _ e2)
      (cond-below (r == 6) s.esi t.esi _ _ (rest _ _ e1) (rest _ _ e)))))))

  -- ---- facts

  record IsBelow (o : Option D) (b : D) : Type 0 where
    pub value : D
    pub is : o ≡ Some value
    pub below : d.leq value b ≡ true

  width-below : (f : Fact D) (o : Option (Held D)) → value_below d f o ≡ true → IsBelow (value_of_width f.w o) f.value
  width-below f None e = absurd (cc)
  width-below f (Some held) e =
      let both = and_parts (bytes_of held.w == bytes_of f.w) (d.leq held.value f.value) e in
      record {
        value = held.value;
        is = ap (λ c. let r : Option D = cond c (Some held.value) None in r) both.0;
        below = both.1;
      }

  fact-below : (f : Fact D) (facts : List (Fact D)) → Ascends pair_before (map pair_of_fact facts) → covers_fact d facts f ≡ true → IsBelow (found f.area f.low f.w facts) f.value
  fact-below f facts ascend e =
      let pairs = map pair_of_fact facts in
      let spot : Spot = record { area = f.area; low = f.low } in
      let back : map fact_at pairs ≡ facts = facts-back facts in
      let covered : value_below d f (value_at spot pairs) ≡ true = sym (covered-at d f pairs ascend) ∙ ap (λ fs. covers_fact d fs f) back ∙ e in
      let below = width-below f (value_at spot pairs) covered in
      record {
        value = below.value;
        is = ap (found f.area f.low f.w) (sym back) ∙ found-at f.area f.low f.w pairs ascend ∙ below.is;
        below = below.below;
      }

  record IsFactOf (facts : List (Fact D)) (a : Area) (low : ℤ) (w : Width) (b : D) : Type 0 where
    pub fact : Fact D
    pub at : is_at a low w fact ≡ true
    pub value : fact.value ≡ b
    pub covered : covers_fact d facts fact ≡ true

  fact-found : (others facts : List (Fact D)) (a : Area) (low : ℤ) (w : Width) (b : D) → list_all (covers_fact d others) facts ≡ true → found a low w facts ≡ Some b → IsFactOf others a low w b
  fact-found others [] a low w b e is = absurd (cc)
  fact-found others (f ∷ facts) a low w b e is = by (is_at a low w f) refl is (fact-found others facts a low w b (rest (covers_fact d others f) (list_all (covers_fact d others) facts) e))
    where
      by : (c : Bool) → is_at a low w f ≡ c → option_map (λ (g : Fact D). g.value) (cond c (Some f) (find (is_at a low w) facts)) ≡ Some b → (found a low w facts ≡ Some b → IsFactOf others a low w b) → IsFactOf others a low w b
      by true at same more = record {
        fact = f;
        at = at;
        value = cc;
        covered = first (covers_fact d others f) (list_all (covers_fact d others) facts) e;
      }
      by false at same more = more same

  -- ---- what states hold

  holder-below : (h : Holder) (t s : Known D) (b : D) → covers_state d t s ≡ true → Ascends pair_before (map pair_of_fact s.parts.facts) → held_at h t ≡ Some b → IsBelow (held_at h s) b
  unfolding covers_state
  holder-below (Register r) t s b e ascend is =
      let same : register t.regs r ≡ b = cc in
      record {
        value = register s.regs r;
        is = refl;
        below = ap (d.leq (register s.regs r)) (sym same) ∙ register-below r t.regs s.regs (first _ _ e);
      }
  holder-below (Bytes spot w) t s b e ascend is =
      let regs = covers_registers d t.regs s.regs in
      let flags = covers_flags t.flags s.flags in
      let note = covers_note t.note s.note in
      let parts = covers_held d t.parts s.parts in
      let held : parts ≡ true = rest note parts (rest flags (note && parts) (rest regs (flags && (note && parts)) e)) in
      let facts = first (list_all (covers_fact d s.parts.facts) t.parts.facts) (list_all (lies_in t.parts.dirty) s.parts.dirty && list_all (covers_count s.parts.blocks) t.parts.blocks) held in
      let f = fact-found s.parts.facts t.parts.facts spot.area spot.low w b facts is in
      let below = fact-below f.fact s.parts.facts ascend f.covered in
      let same : holder_of f.fact ≡ Bytes spot w = same_holder-is (holder_of f.fact) (Bytes spot w) f.at in
      record {
        value = below.value;
        is = ap (λ h. held_at h s) (sym same) ∙ below.is;
        below = ap (d.leq below.value) (sym f.value) ∙ below.below;
      }

  module _ (t s : Known D) (e : covers_state d t s ≡ true) (ascend : Ascends pair_before (map pair_of_fact s.parts.facts)) where
    value-agrees : (h : Holder) (digest : ℕ) (o : Option D) → held_at h t ≡ o → Agrees (told_value d digest o) (told_value d digest (held_at h s))
    unfolding Agrees
    value-agrees h digest None is = none
      where
        none : Agrees Nothing (told_value d digest (held_at h s))
        none = tt
    value-agrees h digest (Some b) is =
        let below = holder-below h t s b e ascend is in
        subst (λ (o : Option D). Agrees (told_value d digest (Some b)) (told_value d digest o)) (sym below.is) (told-by digest below.value b (d.number_of b) below.below refl)

    more-agrees : (x y : Told) (h : Holder) → Agrees x y → Agrees (told_more d t x h) (told_more d s y h)
    unfolding Agrees
    more-agrees Nothing y h a = tt
    more-agrees Unclear y h a = tt
    more-agrees (Numbers digest) y h (inl same) = subst (λ (z : Told). Agrees (told_value d digest (held_at h t)) (told_more d s z h)) (sym same) (value-agrees h digest (held_at h t) refl)
    more-agrees (Numbers digest) y h (inr same) = subst (λ (z : Told). Agrees (told_value d digest (held_at h t)) (told_more d s z h)) (sym same) (agrees-unclear (told_value d digest (held_at h t)))

    all-agrees : (holders : List Holder) (x y : Told) → Agrees x y → Agrees (fold (told_more d t) x holders) (fold (told_more d s) y holders)
    all-agrees [] x y a = a
    all-agrees (h ∷ holders) x y a = all-agrees holders (told_more d t x h) (told_more d s y h) (more-agrees x y h a)

    -- where the first state has numbers at all these, the second has the same, or does not tell
    pub told-agrees : (holders : List Holder) (digest : ℕ) → told_at d holders t ≡ Numbers digest → (told_at d holders s ≡ Numbers digest) ⊎ (told_at d holders s ≡ Unclear)
    unfolding Agrees
    told-agrees holders digest is = subst (λ (x : Told). Agrees x (told_at d holders s)) is (all-agrees holders (Numbers 0) (Numbers 0) (inl refl))

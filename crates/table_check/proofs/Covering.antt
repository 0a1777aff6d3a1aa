-- Covering is an order: each state covers itself, and what covers a covering state covers.
use Rattle.std.proofs.Common.{◌≡◌, ℕ, Bool, true, false, ◌&&◌, ◌||◌, ◌==◌, List, [], ◌∷◌, ◌++◌, ◌+◌, ◌<◌, length, take, get_or, Option, Some, None, refl, sym, subst, ap, ◌∙◌, arith, ℤ, ◌+ℤ◌}
use Rattle.std.specs.Prelude.{Contains, int_le, not}
use Rattle.std.specs.List.{list_all, list_any}
use Rattle.std.specs.Ordering.{int_eq}
use Rattle.std.proofs.lemmas.Grind.{common_steps}
use Rattle.std.proofs.lemmas.Int.{ints}
use Rattle.std.proofs.lemmas.List.{take_more}
use Rattle.std.proofs.lemmas.Option.{slice_get_read}
use Rattle.bit_words.specs.Width.{bytes_of}
use Rattle.address_regions.specs.declared.region.Region.{Region}
use Rattle.address_regions.specs.Same.{same_region}
use Rattle.address_regions.proofs.RegionLaws.{same_region-is, same_region-refl}
use Rattle.domain_laws.specs.Laws.{Values, IsLawful}
use Rattle.memory_map.specs.declared.registers.Regs.{Regs}
use Rattle.partitioned_memory.specs.declared.area.Area.{Area}
use Rattle.partitioned_memory.specs.declared.fact.Counted.{Counted}
use Rattle.partitioned_memory.specs.declared.fact.Dirty.{Dirty}
use Rattle.partitioned_memory.specs.declared.fact.Fact.{Fact}
use Rattle.partitioned_memory.specs.Areas.{same_area}
use Rattle.partitioned_memory.specs.Held.{PartsHeld, counts_below, covers_held, is_below, lies_in_one}
use Rattle.partitioned_memory.proofs.Orders.{same_area-is, same_area-refl}
use Rattle.abstract_state.specs.declared.flags.Truths.{Truths}
use Rattle.abstract_state.specs.declared.note.Note.{Note}
use Rattle.abstract_state.specs.declared.note.Note.TheVariants.{Register, Word}
use Rattle.abstract_state.specs.declared.truth.Truth.{Truth}
use Rattle.abstract_state.specs.declared.truth.Truth.TheVariants.{Yes, No, Unknown}
use Rattle.abstract_state.specs.Flags.{covers_flags}
use Rattle.abstract_state.specs.Notes.{covers_note, same_note}
use Rattle.abstract_state.specs.Registers.{covers_registers}
use Rattle.abstract_state.specs.State.{Known, covers_state}
use Rattle.abstract_state.specs.Truth.{covers_truth}
use Rattle.abstract_state.proofs.Covering.{first, rest, int-same, nat-same}
use Rattle.abstract_state.proofs.Logic.{covers_refl}
use Rattle.abstract_state.proofs.Raising.{int-refl, nat-refl}
use Rattle.flow_log.proofs.Members.{Contains-here, Contains-later, Contains-slice_get}
use Rattle.table_check.proofs.Closing.{all_of, any_found}
use Rattle.std.proofs.lemmas.Bool.{and_from}
use Rattle.std.proofs.lemmas.List.Folds.{list_any-from_Any}
use Rattle.automaton_text.proofs.Ascends.{list_all-push}

-- ---- lists in which each member has one of another list

pub any_of : {X : Type 0} (t : X → Bool) (xs : List X) (x : X) → Contains xs x → t x ≡ true → list_any t xs ≡ true
any_of t xs x (k, within, at) e = list_any-from_Any t xs (k, x, within, at, e)

pub all_by : {X : Type 0} (t : X → Bool) (xs : List X) → ((x : X) → Contains xs x → t x ≡ true) → list_all t xs ≡ true
all_by t [] h = refl
all_by t (x ∷ xs) h = and_from (t x) (list_all t xs) (h x (Contains-here x xs)) (all_by t xs (λ y held. h y (Contains-later x y xs held)))

-- a member that fails
not_by : {X : Type 0} (t : X → Bool) (xs : List X) (x : X) (b : Bool) → list_all t xs ≡ b → Contains xs x → t x ≡ false → list_all t xs ≡ false
not_by t xs x true e held off = let on : t x ≡ true = all_of t xs x e held in cc
not_by t xs x false e held off = e

pub not_all : {X : Type 0} (t : X → Bool) (xs : List X) (i : ℕ) (x : X) → i < length xs → x ≡ get_or xs i x → t x ≡ false → list_all t xs ≡ false
not_all t xs i x within is off = not_by t xs x (list_all t xs) refl (Contains-slice_get xs i x (slice_get_read xs (length xs) i x refl within is)) off

pub all_more : {X : Type 0} (t : X → Bool) (xs : List X) (i : ℕ) (x : X) → i < length xs → x ≡ get_or xs i x → list_all t (take i xs) ≡ true → t x ≡ true → list_all t (take (i + 1) xs) ≡ true
all_more t xs i x within is e on =
    ap (list_all t) (take_more xs i x within ∙ ap (λ y. take i xs ++ y ∷ []) (sym is)) ∙ list_all-push t (take i xs) x e on

module _ {X : Type 0} (q : X → X → Bool) where
  each-own : ((x : X) → q x x ≡ true) → (xs : List X) → list_all (λ x. list_any (q x) xs) xs ≡ true
  each-own own xs = all_by (λ x. list_any (q x) xs) xs (λ x held. any_of (q x) xs x held (own x))

  each-through : ((x y z : X) → q x y ≡ true → q y z ≡ true → q x z ≡ true) → (xs ys zs : List X)
      → list_all (λ x. list_any (q x) ys) xs ≡ true → list_all (λ y. list_any (q y) zs) ys ≡ true → list_all (λ x. list_any (q x) zs) xs ≡ true
  each-through through xs ys zs e f =
      all_by (λ x. list_any (q x) zs) xs
      (λ x held.
      let y = any_found (q x) ys (all_of (λ x. list_any (q x) ys) xs x e held) in
      let z = any_found (q y.item) zs (all_of (λ y. list_any (q y) zs) ys y.item f y.held) in
      any_of (q x) zs z.item z.held (through x y.item z.item y.passes z.passes))

-- ---- parts of a state

nat-through : (a b c : ℕ) → (a == b) ≡ true → (b == c) ≡ true → (a == c) ≡ true
nat-through a b c e f = let P : ℕ → Type 0 = λ x. (x == c) ≡ true in subst P (sym (nat-same a b e)) f

int-through : (a b c : ℤ) → int_eq a b ≡ true → int_eq b c ≡ true → int_eq a c ≡ true
int-through a b c e f = let P : ℤ → Type 0 = λ x. int_eq x c ≡ true in subst P (sym (int-same a b e)) f

le-own : (a : ℤ) → int_le a a ≡ true
le-own a = grind (arith, ints, common_steps)

le-through : (a b c : ℤ) → int_le a b ≡ true → int_le b c ≡ true → int_le a c ≡ true
le-through a b c e f = grind (arith, ints, common_steps)

area-through : (a b c : Area) → same_area a b ≡ true → same_area b c ≡ true → same_area a c ≡ true
area-through a b c e f = let P : Area → Type 0 = λ x. same_area x c ≡ true in subst P (sym (same_area-is a b e)) f

region-through : (a b c : Region) → same_region a b ≡ true → same_region b c ≡ true → same_region a c ≡ true
region-through a b c e f = let P : Region → Type 0 = λ x. same_region x c ≡ true in subst P (sym (same_region-is a b e)) f

truth-through : (a b c : Truth) → covers_truth a b ≡ true → covers_truth b c ≡ true → covers_truth a c ≡ true
truth-through Unknown b c e f = refl
truth-through Yes Yes c e f = f
truth-through Yes No c e f = absurd (cc)
truth-through Yes Unknown c e f = absurd (cc)
truth-through No No c e f = f
truth-through No Yes c e f = absurd (cc)
truth-through No Unknown c e f = absurd (cc)

flags-own : (t : Truths) → covers_flags t t ≡ true
flags-own t =
    and_from _ _ (and_from _ _ (and_from _ _ (and_from _ _ (and_from _ _ (and_from _ _ (covers_refl t.carry) (covers_refl t.parity)) (covers_refl t.adjust)) (covers_refl t.zero)) (covers_refl t.sign)) (covers_refl t.overflow)) (covers_refl t.direction)

flags-through : (t u s : Truths) → covers_flags t u ≡ true → covers_flags u s ≡ true → covers_flags t s ≡ true
flags-through t u s e f =
    let e1 = first _ _ e in let e2 = first _ _ e1 in let e3 = first _ _ e2 in let e4 = first _ _ e3 in let e5 = first _ _ e4 in
    let f1 = first _ _ f in let f2 = first _ _ f1 in let f3 = first _ _ f2 in let f4 = first _ _ f3 in let f5 = first _ _ f4 in
    and_from _ _ (and_from _ _ (and_from _ _ (and_from _ _ (and_from _ _ (and_from _ _
    (truth-through t.carry u.carry s.carry (first _ _ e5) (first _ _ f5))
    (truth-through t.parity u.parity s.parity (rest _ _ e5) (rest _ _ f5)))
    (truth-through t.adjust u.adjust s.adjust (rest _ _ e4) (rest _ _ f4)))
    (truth-through t.zero u.zero s.zero (rest _ _ e3) (rest _ _ f3)))
    (truth-through t.sign u.sign s.sign (rest _ _ e2) (rest _ _ f2)))
    (truth-through t.overflow u.overflow s.overflow (rest _ _ e1) (rest _ _ f1)))
    (truth-through t.direction u.direction s.direction (rest _ _ e) (rest _ _ f))

note-own : (n : Option Note) → covers_note n n ≡ true
note-own None = refl
note-own (Some (Register r c)) = and_from _ _ (nat-refl r) (nat-refl c)
note-own (Some (Word o c)) = and_from _ _ (int-refl o) (nat-refl c)

same_note-through : (a b c : Note) → same_note a b ≡ true → same_note b c ≡ true → same_note a c ≡ true
same_note-through (Register r i) (Register q j) (Register p k) e f = and_from _ _ (nat-through r q p (first _ _ e) (first _ _ f)) (nat-through i j k (rest _ _ e) (rest _ _ f))
same_note-through (Word r i) (Word q j) (Word p k) e f = and_from _ _ (int-through r q p (first _ _ e) (first _ _ f)) (nat-through i j k (rest _ _ e) (rest _ _ f))
same_note-through (Register r i) (Word q j) c e f = absurd (cc)
same_note-through (Word r i) (Register q j) c e f = absurd (cc)
same_note-through (Register r i) (Register q j) (Word p k) e f = absurd (cc)
same_note-through (Word r i) (Word q j) (Register p k) e f = absurd (cc)

note-through : (t u s : Option Note) → covers_note t u ≡ true → covers_note u s ≡ true → covers_note t s ≡ true
note-through None u s e f = refl
note-through (Some a) None s e f = absurd (cc)
note-through (Some a) (Some b) None e f = absurd (cc)
note-through (Some a) (Some b) (Some c) e f = same_note-through a b c e f

lies-own : (r : Dirty) → lies_in_one r r ≡ true
lies-own r = and_from _ _ (same_area-refl r.area) (and_from _ _ (le-own r.low) (le-own (r.low +ℤ r.size)))

lies-through : (r q p : Dirty) → lies_in_one r q ≡ true → lies_in_one q p ≡ true → lies_in_one r p ≡ true
lies-through r q p e f =
    and_from _ _ (area-through p.area q.area r.area (first _ _ f) (first _ _ e))
    (and_from _ _ (le-through p.low q.low r.low (first _ _ (rest _ _ f)) (first _ _ (rest _ _ e)))
    (le-through (r.low +ℤ r.size) (q.low +ℤ q.size) (p.low +ℤ p.size) (rest _ _ (rest _ _ e)) (rest _ _ (rest _ _ f))))

many-own : (b : Bool) → (b || not b) ≡ true
many-own true = refl
many-own false = refl

many-through : (a b c : Bool) → (a || not b) ≡ true → (b || not c) ≡ true → (a || not c) ≡ true
many-through true b c e f = refl
many-through false true c e f = absurd (cc)
many-through false false c e f = f

counts-own : (c : Counted) → counts_below c c ≡ true
counts-own c = and_from _ _ (same_region-refl c.region) (many-own c.many)

counts-through : (a b c : Counted) → counts_below a b ≡ true → counts_below b c ≡ true → counts_below a c ≡ true
counts-through a b c e f = and_from _ _ (region-through c.region b.region a.region (first _ _ f) (first _ _ e)) (many-through a.many b.many c.many (rest _ _ e) (rest _ _ f))

module _ {D : Type 0} (d : Values D) (l : IsLawful d) where
  registers-own : (g : Regs D) → covers_registers d g g ≡ true
  registers-own g =
      and_from _ _ (and_from _ _ (and_from _ _ (and_from _ _ (and_from _ _ (and_from _ _ (and_from _ _ (l.leq_refl g.eax) (l.leq_refl g.ecx)) (l.leq_refl g.edx)) (l.leq_refl g.ebx)) (l.leq_refl g.esp)) (l.leq_refl g.ebp)) (l.leq_refl g.esi)) (l.leq_refl g.edi)

  registers-through : (t u s : Regs D) → covers_registers d t u ≡ true → covers_registers d u s ≡ true → covers_registers d t s ≡ true
  registers-through t u s e f =
      let e1 = first _ _ e in let e2 = first _ _ e1 in let e3 = first _ _ e2 in let e4 = first _ _ e3 in let e5 = first _ _ e4 in let e6 = first _ _ e5 in
      let f1 = first _ _ f in let f2 = first _ _ f1 in let f3 = first _ _ f2 in let f4 = first _ _ f3 in let f5 = first _ _ f4 in let f6 = first _ _ f5 in
      and_from _ _ (and_from _ _ (and_from _ _ (and_from _ _ (and_from _ _ (and_from _ _ (and_from _ _
      (l.leq_trans s.eax u.eax t.eax (first _ _ f6) (first _ _ e6))
      (l.leq_trans s.ecx u.ecx t.ecx (rest _ _ f6) (rest _ _ e6)))
      (l.leq_trans s.edx u.edx t.edx (rest _ _ f5) (rest _ _ e5)))
      (l.leq_trans s.ebx u.ebx t.ebx (rest _ _ f4) (rest _ _ e4)))
      (l.leq_trans s.esp u.esp t.esp (rest _ _ f3) (rest _ _ e3)))
      (l.leq_trans s.ebp u.ebp t.ebp (rest _ _ f2) (rest _ _ e2)))
      (l.leq_trans s.esi u.esi t.esi (rest _ _ f1) (rest _ _ e1)))
      (l.leq_trans s.edi u.edi t.edi (rest _ _ f) (rest _ _ e))

  fact-own : (f : Fact D) → is_below d f f ≡ true
  fact-own f = and_from _ _ (and_from _ _ (same_area-refl f.area) (and_from _ _ (int-refl f.low) (nat-refl (bytes_of f.w)))) (l.leq_refl f.value)

  fact-through : (f g h : Fact D) → is_below d f g ≡ true → is_below d g h ≡ true → is_below d f h ≡ true
  fact-through f g h e k =
      let at = first _ _ e in
      let at' = first _ _ k in
      and_from _ _ (and_from _ _ (area-through h.area g.area f.area (first _ _ at') (first _ _ at))
      (and_from _ _ (int-through h.low g.low f.low (first _ _ (rest _ _ at')) (first _ _ (rest _ _ at)))
      (nat-through (bytes_of h.w) (bytes_of g.w) (bytes_of f.w) (rest _ _ (rest _ _ at')) (rest _ _ (rest _ _ at)))))
      (l.leq_trans h.value g.value f.value (rest _ _ k) (rest _ _ e))

  parts-own : (h : PartsHeld D) → covers_held d h h ≡ true
  parts-own h = and_from _ _ (each-own (is_below d) fact-own h.facts) (and_from _ _ (each-own lies_in_one lies-own h.dirty) (each-own counts_below counts-own h.blocks))

  parts-through : (t u s : PartsHeld D) → covers_held d t u ≡ true → covers_held d u s ≡ true → covers_held d t s ≡ true
  parts-through t u s e f =
      and_from _ _ (each-through (is_below d) fact-through t.facts u.facts s.facts (first _ _ e) (first _ _ f))
      (and_from _ _ (each-through lies_in_one lies-through s.dirty u.dirty t.dirty (first _ _ (rest _ _ f)) (first _ _ (rest _ _ e)))
      (each-through counts_below counts-through t.blocks u.blocks s.blocks (rest _ _ (rest _ _ e)) (rest _ _ (rest _ _ f))))

  pub covers-own : (s : Known D) → covers_state d s s ≡ true
  unfolding covers_state
  covers-own s = and_from _ _ (registers-own s.regs) (and_from _ _ (flags-own s.flags) (and_from _ _ (note-own s.note) (parts-own s.parts)))

  -- the parts of covering
  record AreCovered (t s : Known D) : Type 0 where
    registers : covers_registers d t.regs s.regs ≡ true
    flags : covers_flags t.flags s.flags ≡ true
    note : covers_note t.note s.note ≡ true
    parts : covers_held d t.parts s.parts ≡ true

  covered_parts : (t s : Known D) → covers_state d t s ≡ true → AreCovered t s
  unfolding covers_state
  covered_parts t s e =
      let r = covers_registers d t.regs s.regs in
      let f = covers_flags t.flags s.flags in
      let n = covers_note t.note s.note in
      let h = covers_held d t.parts s.parts in
      let after : (f && (n && h)) ≡ true = rest r (f && (n && h)) e in
      let last : (n && h) ≡ true = rest f (n && h) after in
      record { registers = first r (f && (n && h)) e; flags = first f (n && h) after; note = first n h last; parts = rest n h last }

  pub covers-through : (t u s : Known D) → covers_state d t u ≡ true → covers_state d u s ≡ true → covers_state d t s ≡ true
  unfolding covers_state
  covers-through t u s e f =
      let a = covered_parts t u e in
      let b = covered_parts u s f in
      and_from _ _ (registers-through t.regs u.regs s.regs a.registers b.registers)
      (and_from _ _ (flags-through t.flags u.flags s.flags a.flags b.flags)
      (and_from _ _ (note-through t.note u.note s.note a.note b.note) (parts-through t.parts u.parts s.parts a.parts b.parts)))

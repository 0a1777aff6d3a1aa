-- Values of places may be held in a word.
use Rattle.std.proofs.Common.{◌≡◌, ◌∙◌, ℕ, zero, suc, ◌≤◌, ◌<◌, ◌^◌, Bool, true, false, List, [], ◌∷◌, Option, Some, None, refl, sym, ap, subst, arith, ℤ, pos}
use Rattle.std.specs.List.{slice_index_or}
use Rattle.std.proofs.lemmas.Bool.{false≢true}
use Rattle.std.proofs.lemmas.Int.{ints}
use Rattle.bit_words.specs.declared.width.Width.TheVariants.{B32}
use Rattle.address_regions.specs.declared.region.Region.{Region}
use Rattle.address_regions.specs.declared.region.Region.TheVariants.{Stack, Fs, Gs, Block}
use Rattle.address_regions.specs.Extents.{has_one_base}
use Rattle.address_regions.specs.Places.{HasBase, IsAllowed, IsValid, Places, place_at}
use Rattle.address_regions.proofs.PlaceLaws.{place_at-lt}
use Rattle.domain_laws.specs.Laws.{IsLawful, Values}
use Rattle.domain_laws.specs.Reached.{named}
use Rattle.partitioned_memory.specs.declared.fact.Counted.{Counted}
use Rattle.partitioned_memory.specs.Held.{is_counted}
use Rattle.partitioned_memory.specs.Well.{HasCount, MayHold}
use Rattle.partitioned_memory.proofs.Holding.{named-block}
use Rattle.flow_log.proofs.Members.{Contains-here}
use Rattle.import_semantics.specs.StubDoes.{LARGEST_BLOCK}

-- there are valid places with a base of a block
abbrev with_one : Region → Places
with_one r = record { align = 4; stack = 0x80000000; fs = 0x10000; gs = 0x20000; blocks = (r, 0x10000000) ∷ [] }

at-one : {X : Type 0} (x y : X) (k : ℕ) → k < 1 → slice_index_or (x ∷ []) k y ≡ y → x ≡ y
at-one x y zero less is = is
at-one x y (suc k) less is = absurd (omega arith)

one-allowed : (site size : ℕ) (zeroed : Bool) → size ≤ LARGEST_BLOCK → (r : Region) (b : ℕ) → HasBase (with_one (Block site size zeroed)) r b → IsAllowed r b
one-allowed site size zeroed fits Stack b e = record { low = omega (arith, ints); high = omega (arith, ints) }
one-allowed site size zeroed fits Fs b e = record { low = omega (arith, ints); high = omega (arith, ints) }
one-allowed site size zeroed fits Gs b e = record { low = omega (arith, ints); high = omega (arith, ints) }
one-allowed site size zeroed fits (Block s n z) b e =
    let same : (Block site size zeroed, 0x10000000) ≡ (Block s n z, b) = at-one (Block site size zeroed, 0x10000000) (Block s n z, b) e.0 e.1 e.2 in
    subst (λ (x : Region × ℕ). IsAllowed x.0 x.1) same (record { low = omega (arith, ints); high = omega (arith, ints) })

one-valid : (site size : ℕ) (zeroed : Bool) → size ≤ LARGEST_BLOCK → IsValid (with_one (Block site size zeroed))
one-valid site size zeroed fits = record { alignment = refl; aligned = refl; allowed = one-allowed site size zeroed fits }

-- what names no region but one that has a count
counted-as : (blocks : List Counted) (r : Region) (o : Option Region) → is_counted r blocks ≡ true → ((s : Region) → o ≡ Some s → s ≡ r) → HasCount blocks o
counted-as blocks r None counted h = tt
counted-as blocks r (Some s) counted h = subst (λ (q : Region). is_counted q blocks ≡ true) (sym (h s refl)) counted

counted-none : (blocks : List Counted) (o : Option Region) → ((s : Region) → o ≡ Some s → ⊥) → HasCount blocks o
counted-none blocks None h = tt
counted-none blocks (Some s) h = absurd (h s refl)

module _ {D : Type 0} (d : Values D) (l : IsLawful d) where
  place-fits : (r : Region) (o : ℤ) (p : Places) (b n : ℕ) → IsValid p → HasBase p r b → d.number_of (d.place r o) ≡ Some n → n < 2 ^ 32
  place-fits r o p b n valid has e =
      let same : place_at b o ≡ n = l.number_of_alone (d.place r o) n p (place_at b o) valid e (l.place_stands r o b p valid has) in
      subst (λ (x : ℕ). x < 2 ^ 32) same (place_at-lt b o)

  pub stack-held : (blocks : List Counted) (o : ℤ) → MayHold d blocks B32 (d.place Stack o)
  stack-held blocks o = record {
    fits = λ n e. place-fits Stack o (with_one (Block 0 1 false)) 0x80000000 n (one-valid 0 1 false (omega arith)) refl e;
    counted = counted-none blocks (named (d.reach (d.place Stack o))) (λ s e. false≢true (sym (named-block (d.reach (d.place Stack o)) s e) ∙ ap has_one_base (l.place_names Stack o s e)));
  }

  pub block-held : (blocks : List Counted) (site size : ℕ) (zeroed : Bool) → size ≤ LARGEST_BLOCK → is_counted (Block site size zeroed) blocks ≡ true → MayHold d blocks B32 (d.place (Block site size zeroed) (pos 0))
  block-held blocks site size zeroed fits counted =
      let r = Block site size zeroed in
      record {
        fits = λ n e. place-fits r (pos 0) (with_one r) 0x10000000 n (one-valid site size zeroed fits) (Contains-here (r, 0x10000000) []) e;
        counted = counted-as blocks r (named (d.reach (d.place r (pos 0)))) counted (l.place_names r (pos 0));
      }

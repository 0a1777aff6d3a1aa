-- Where paths go: landings, one way or another, and the endings of several paths together.
use Rattle.std.proofs.Common.{◌≡◌, ℕ, ◌<◌, ◌^◌, Bool, true, false, cond, List, [], ◌∷◌, ◌++◌, fold, Option, Some, None, refl, subst}
use Rattle.std.specs.Prelude.{Contains}
use Rattle.std.specs.declared.cmp.Ordering.{Ordering}
use Rattle.std.specs.declared.cmp.Ordering.TheVariants.{Less, Equal, Greater}
use Rattle.std.proofs.lemmas.List.Elements.{Contains-append_left, Contains-append_right}
use Rattle.bit_words.specs.declared.width.Width.TheVariants.{B32}
use Rattle.address_regions.specs.Places.{Places}
use Rattle.domain_laws.specs.Laws.{Values, IsLawful}
use Rattle.memory_map.specs.Image.{Image}
use Rattle.memory_map.specs.State.{MachineState}
use Rattle.partitioned_memory.specs.declared.fact.Counted.{Counted}
use Rattle.x86_semantics.specs.Operands.{Ended, Next, Faulted, at_address}
use Rattle.flow_log.specs.Ordered.{by_order, insert_once, ordered_set}
use Rattle.flow_log.proofs.Members.{Contains-map}
use Rattle.abstract_state.specs.declared.truth.Truth.{Truth}
use Rattle.abstract_state.specs.declared.truth.Truth.TheVariants.{Yes, No, Unknown}
use Rattle.abstract_state.specs.declared.note.Note.{Note}
use Rattle.abstract_state.specs.declared.note.Note.TheVariants.{Register, Word}
use Rattle.abstract_state.specs.Describes.{Describes, NoteStands}
use Rattle.abstract_state.specs.Expanding.{Expanded, Path, cause_cmp, joined, lands}
use Rattle.abstract_state.specs.State.{IsWellState, Known}
use Rattle.abstract_state.specs.Truth.{StandsFor}
use Rattle.abstract_state.proofs.BridgeFits.{fits_kept}
use Rattle.transfer_functions.specs.Flow.{landing, lands_each}
use Rattle.transfer_functions.specs.Values.{branched, either_way}
use Rattle.transfer_functions.proofs.Steps.{S, H, E, lands_ends}

-- ---- causes of several paths

inserted_one : {X : Type 0} (cmp : X → X → Ordering) (o : Ordering) (x y : X) (ys rest : List X) → by_order cmp o (x ∷ y ∷ ys) (y ∷ ys) (y ∷ rest) ≡ [] → ⊥
inserted_one cmp Less x y ys rest e = cc
inserted_one cmp Equal x y ys rest e = cc
inserted_one cmp Greater x y ys rest e = cc

inserted_some : {X : Type 0} (cmp : X → X → Ordering) (x : X) (ys : List X) → insert_once cmp x ys ≡ [] → ⊥
inserted_some cmp x [] e = cc
inserted_some cmp x (y ∷ ys) e = inserted_one cmp (cmp x y) x y ys (insert_once cmp x ys) e

folded_none : {X : Type 0} (cmp : X → X → Ordering) (xs set : List X) → fold (λ s x. insert_once cmp x s) set xs ≡ [] → (set ≡ []) × (xs ≡ [])
folded_none cmp [] set e = (e, refl)
folded_none cmp (x ∷ xs) set e = absurd (inserted_some cmp x set (folded_none cmp xs (insert_once cmp x set) e).0)

pub set_none : {X : Type 0} (cmp : X → X → Ordering) (xs : List X) → ordered_set cmp xs ≡ [] → xs ≡ []
unfolding ordered_set
set_none cmp xs e = (folded_none cmp xs [] e).1

both_none : {X : Type 0} (xs ys : List X) → xs ++ ys ≡ [] → (xs ≡ []) × (ys ≡ [])
both_none [] ys e = (refl, e)
both_none (x ∷ xs) ys e = cc

module _ {D : Type 0} (d : Values D) (l : IsLawful d) (image : Image) (p : Places) (blocks : List Counted) where
  -- ---- several paths

  -- what one of two paths leads to
  pub joined_first : (x y : Expanded D) (e : Ended) → E d l image p blocks x e → E d l image p blocks (joined x y) e
  joined_first x y e h =
      elim e as (λ t. E d l image p blocks x t → E d l image p blocks (joined x y) t) [
        | Next n ↦ λ f none.
            let parts = both_none x.causes y.causes (set_none cause_cmp (x.causes ++ y.causes) none) in
            let k = f parts.0 in
            record { state = k.state; pair = Contains-append_left x.next y.next (n.eip, k.state) k.pair; well = k.well; describes = k.describes }
        | Faulted kind m ↦ λ f. tt
      ] h

  pub joined_second : (x y : Expanded D) (e : Ended) → E d l image p blocks y e → E d l image p blocks (joined x y) e
  joined_second x y e h =
      elim e as (λ t. E d l image p blocks y t → E d l image p blocks (joined x y) t) [
        | Next n ↦ λ f none.
            let parts = both_none x.causes y.causes (set_none cause_cmp (x.causes ++ y.causes) none) in
            let k = f parts.1 in
            record { state = k.state; pair = Contains-append_right x.next y.next (n.eip, k.state) k.pair; well = k.well; describes = k.describes }
        | Faulted kind m ↦ λ f. tt
      ] h

  -- one way where a test holds, and the other where it does not
  pub either_ends : (t : Truth) (b : Bool) (x y : Expanded D) (e f : Ended) → StandsFor t b → (b ≡ true → E d l image p blocks x e) → (b ≡ false → E d l image p blocks y f)
      → E d l image p blocks (either_way t x y) (cond b e f)
  either_ends Yes true x y e f stands h k = h refl
  either_ends Yes false x y e f stands h k = cc
  either_ends No true x y e f stands h k = cc
  either_ends No false x y e f stands h k = k refl
  either_ends Unknown true x y e f stands h k = joined_first x y e (h refl)
  either_ends Unknown false x y e f stands h k = joined_second x y f (k refl)

  -- ---- landings

  moved_note : (note : Option Note) (m : MachineState) (a : ℕ) → NoteStands note p m → NoteStands note p (at_address a m)
  moved_note None m a h = tt
  moved_note (Some (Register r c)) m a h = h
  moved_note (Some (Word o c)) m a h = h

  -- a machine state at another address is described as well
  moved_describes : (t : Known D) (m : MachineState) (a : ℕ) → a < 2 ^ 32 → Describes d image t p m → Describes d image t p (at_address a m)
  moved_describes t m a less e =
      let w = e.words in
      record {
        fits = fits_kept image p m (at_address a m) (record { mapped = refl; stack = refl; fs = refl; gs = refl }) e.fits.bytes e.fits;
        words = record { eax = w.eax; ecx = w.ecx; edx = w.edx; ebx = w.ebx; esp = w.esp; ebp = w.ebp; esi = w.esi; edi = w.edi; eip = less; fs = w.fs; gs = w.gs };
        registers = e.registers;
        flags = e.flags;
        note = moved_note t.note m a e.note;
        parts = e.parts;
      }

  -- one of some states describes a machine state
  pub record IsAmong (states : List (Known D)) (m : MachineState) : Type 0 where
    pub state : Known D
    pub there : Contains states state
    pub well : IsWellState d state
    pub describes : Describes d image state p m

  pub lands_each_ends : (states : List (Known D)) (a : ℕ) (q : Path D) (m : MachineState) → a < 2 ^ 32 → IsAmong states m → H d l image p blocks q m → E d l image p blocks (lands_each a states q) (Next (at_address a m))
  lands_each_ends states a q m less k h = λ none. record {
    state = k.state;
    pair = Contains-map (λ s. (a, s)) states k.state k.there;
    well = k.well;
    describes = moved_describes k.state m a less k.describes;
  }

  branch_ended : (b : Bool) (taken past : ℕ) (m : MachineState) → cond b (Next (at_address taken m)) (Next (at_address past m)) ≡ Next (at_address (cond b taken past) m)
  branch_ended true taken past m = refl
  branch_ended false taken past m = refl

  pub branched_ends : (t : Truth) (b : Bool) (taken past : ℕ) (q : Path D) (m : MachineState) → StandsFor t b → taken < 2 ^ 32 → past < 2 ^ 32 → H d l image p blocks q m
      → E d l image p blocks (branched t taken past q) (Next (at_address (cond b taken past) m))
  branched_ends t b taken past q m stands less also h =
      subst (λ e. E d l image p blocks (branched t taken past q) e) (branch_ended b taken past m)
      (either_ends t b _ _ _ _ stands (λ _. lands_ends d l image p blocks taken q m less h) (λ _. lands_ends d l image p blocks past q m also h))

  pub landing_at : (o : Option ℕ) (a : ℕ) (q : Path D) (m : MachineState) → ((n : ℕ) → o ≡ Some n → a ≡ n) → a < 2 ^ 32 → H d l image p blocks q m → E d l image p blocks (landing o q) (Next (at_address a m))
  landing_at None a q m is less h = λ none. absurd (cc)
  landing_at (Some n) a q m is less h =
      subst (λ z. E d l image p blocks (lands z q) (Next (at_address a m))) (is n refl) (lands_ends d l image p blocks a q m less h)

  -- at the number that a value is, or open
  pub landing_ends : (v : D) (a : ℕ) (q : Path D) (m : MachineState) → S d l image p blocks B32 v a → H d l image p blocks q m → E d l image p blocks (landing (d.number_of v) q) (Next (at_address a m))
  landing_ends v a q m k h = landing_at (d.number_of v) a q m (λ n e. l.number_of_alone v n p a h.describes.fits.valid e k.stands) k.fits h

-- Jumps, calls and loops: their expansion stands for what they do.
use Rattle.std.proofs.Common.{◌≡◌, ℕ, ◌+◌, ◌-◌, ◌<◌, ◌%◌, ◌/◌, ◌^◌, Bool, true, false, not, cond, ◌==◌, ◌&&◌, ◌||◌, List, [], Option, Some, refl, sym, ◌∙◌, ap, subst, arith}
use Rattle.std.specs.Prelude.{ℤ, slice_get, unwrap_or}
use Rattle.std.proofs.Math.Bool.{xor}
use Rattle.std.proofs.lemmas.Bool.{both_ways, eqb-true, ne_eqb, eq-eqb}
use Rattle.address_regions.specs.Places.{Places}
use Rattle.bit_words.specs.declared.width.Width.TheVariants.{B32}
use Rattle.bit_words.specs.declared.op.Op.TheVariants.{Eq}
use Rattle.domain_laws.specs.Laws.{Values, IsLawful}
use Rattle.memory_map.specs.Image.{Image}
use Rattle.memory_map.specs.State.{Flags, MachineState}
use Rattle.memory_map.specs.declared.registers.TheConstants.{ECX, ESP}
use Rattle.partitioned_memory.specs.declared.fact.Counted.{Counted}
use Rattle.x86_syntax.specs.declared.instr.Cond.{Cond}
use Rattle.x86_syntax.specs.declared.instr.Operand.{Operand}
use Rattle.x86_syntax.specs.declared.instr.Operand.TheVariants.{Register, Number, Memory, Offset}
use Rattle.x86_syntax.specs.Text.{next_address}
use Rattle.x86_semantics.specs.Condition.{is_met, tests}
use Rattle.x86_semantics.specs.declared.operation.Looping.{Looping}
use Rattle.x86_semantics.specs.declared.operation.Looping.TheVariants.{Counted as CountedLoop, Equal, NotEqual}
use Rattle.x86_semantics.specs.Flow.{call as call_of, counting_down as counting_down_of, goto as goto_of, jump as jump_of, jump_if_no_count as jump_if_no_count_of, loop as loop_of, meets_zero as meets_zero_of, return as return_of, targeting as targeting_of}
use Rattle.x86_semantics.specs.Operands.{Ended, Next, at_address, branch_target, reading as reading_of}
use Rattle.x86_semantics.specs.Widths.{has_width, is_target}
use Rattle.flow_log.proofs.Members.{Contains-here}
use Rattle.abstract_state.specs.declared.truth.Truth.TheVariants.{Yes, No, Unknown}
use Rattle.abstract_state.specs.declared.flags.Truths.{Truths}
use Rattle.abstract_state.specs.Expanding.{Expanded, Path}
use Rattle.abstract_state.specs.Flags.{FlagsStand, truth_met}
use Rattle.abstract_state.specs.Laws.{RefiningIsSound, RefiningKeepsWell}
use Rattle.abstract_state.specs.Truth.{StandsFor, either, opposite}
use Rattle.abstract_state.proofs.Logic.{either_stands, met_stands, opposite_stands}
use Rattle.abstract_state.proofs.Bridge.{loading_ends, number_known}
use Rattle.transfer_functions.specs.Flow.{call, counting_down, goto, jump, jump_if_no_count, landing, lands_each, loop, meets_zero, negated, return, states_by, states_where, targeting}
use Rattle.transfer_functions.specs.Moves.{pushing}
use Rattle.x86_semantics.specs.Moves.{pushing as pushing_of}
use Rattle.transfer_functions.specs.Values.{branched, is_zero, reading}
use Rattle.transfer_functions.proofs.Knowing.{number_stands}
use Rattle.transfer_functions.proofs.Paths.{IsAmong, branched_ends, joined_first, joined_second, landing_at, landing_ends, lands_each_ends}
use Rattle.transfer_functions.proofs.SoundMoves.{above_stands, below_stands, pushing_ends, reading_width}
use Rattle.transfer_functions.proofs.Steps.{S, H, E, eval_stands, register_stands, with_register_holds}
use Rattle.transfer_functions.proofs.Words.{eq_zero}

-- ---- the condition that holds where another does not

next_even : (n : ℕ) → (n % 2 == 0) ≡ true → ((n + 1) / 2 ≡ n / 2) × (((n + 1) % 2 == 1) ≡ true)
next_even n e = let z = eqb-true (n % 2) 0 e in (omega (arith, z), eq-eqb ((n + 1) % 2) 1 (omega (arith, z)))

last_odd : (n : ℕ) → (n % 2 ≡ 0 → ⊥) → ((n - 1) / 2 ≡ n / 2) × (((n - 1) % 2 == 1) ≡ false)
last_odd n e = let one : n % 2 ≡ 1 = omega (arith, e) in (omega (arith, one), ne_eqb ((n - 1) % 2) 1 (λ q. omega (arith, q, one)))

turned_test : (b c t : Bool) → b ≡ not c → xor b t ≡ not (xor c t)
unfolding xor
turned_test b true true e = ap (λ z. xor z true) e
turned_test b true false e = ap (λ z. xor z false) e
turned_test b false true e = ap (λ z. xor z true) e
turned_test b false false e = ap (λ z. xor z false) e

abbrev met_number : ℕ → Flags → Bool
met_number n f = xor (n % 2 == 1) (unwrap_or (slice_get (tests f) (n / 2)) false)

negated_number : (n : ℕ) (f : Flags) (b : Bool) → (n % 2 == 0) ≡ b → met_number (cond b (n + 1) (n - 1)) f ≡ not (met_number n f)
negated_number n f true e =
    let next = next_even n e in
    let own : (n % 2 == 1) ≡ false = ne_eqb (n % 2) 1 (λ q. let z = eqb-true (n % 2) 0 e in omega (arith, q, z)) in
    ap (λ h. xor ((n + 1) % 2 == 1) (unwrap_or (slice_get (tests f) h) false)) next.0
    ∙ turned_test ((n + 1) % 2 == 1) (n % 2 == 1) (unwrap_or (slice_get (tests f) (n / 2)) false) (next.1 ∙ sym (ap not own))
negated_number n f false e =
    let odd : n % 2 ≡ 0 → ⊥ = λ q. both_ways (n % 2 == 0) e (eq-eqb (n % 2) 0 q) in
    let last = last_odd n odd in
    let own : (n % 2 == 1) ≡ true = eq-eqb (n % 2) 1 (omega (arith, odd)) in
    ap (λ h. xor ((n - 1) % 2 == 1) (unwrap_or (slice_get (tests f) h) false)) last.0
    ∙ turned_test ((n - 1) % 2 == 1) (n % 2 == 1) (unwrap_or (slice_get (tests f) (n / 2)) false) (last.1 ∙ sym (ap not own))

pub negated_met : (c : Cond) (f : Flags) → is_met (negated c) f ≡ not (is_met c f)
unfolding is_met
negated_met c f = negated_number c.0 f (c.0 % 2 == 0) refl

-- ---- loops

either_not : (zero meets : Bool) → not (zero || not meets) ≡ (meets && not zero)
either_not true true = refl
either_not true false = refl
either_not false true = refl
either_not false false = refl

pub zero_meets : (kind : Looping) (t : Truths) (f : Flags) → FlagsStand t f → StandsFor (meets_zero kind t) (meets_zero_of kind f)
zero_meets CountedLoop t f h = refl
zero_meets Equal t f h = h.zero
zero_meets NotEqual t f h = opposite_stands t.zero f.zero h.zero

target_below : (at n : ℕ) (o : ℤ) → branch_target at n o < 2 ^ 32
target_below at n o = omega arith

next_below : (at n : ℕ) → next_address at n < 2 ^ 32
next_below at n = omega arith

module _ {D : Type 0} (d : Values D) (l : IsLawful d) (image : Image) (p : Places) (blocks : List Counted) where
  -- ---- conditional jumps

  states_among : (k : ℕ) (c : Cond) (q : Path D) (m : MachineState) → RefiningIsSound d → RefiningKeepsWell d → is_met c m.flags ≡ true → H d l image p blocks q m
      → IsAmong d l image p blocks (states_where d image k c q.state) m
  states_among k c q m sound keeps met h =
      let s = q.state in
      let stands = met_stands c s.flags m.flags h.describes.flags in
      elim (truth_met c s.flags) as (λ t. truth_met c s.flags ≡ t → StandsFor t (is_met c m.flags) → IsAmong d l image p blocks (states_by d image k t c s) m) [
        | Yes ↦ λ e k. record { state = s; there = Contains-here s []; well = h.well; describes = h.describes }
        | No ↦ λ e k. absurd (both_ways (is_met c m.flags) k met)
        | Unknown ↦ λ e _.
            let r = sound image k c s p m h.well e met h.describes in
            record { state = r.0; there = r.1; well = keeps image k c s r.0 h.well r.1; describes = r.2 }
      ] refl stands

  pub jump_ends : (k : ℕ) (c : Cond) (offset : ℤ) (n : ℕ) (q : Path D) (m : MachineState) → RefiningIsSound d → RefiningKeepsWell d → H d l image p blocks q m
      → E d l image p blocks (jump d image k c offset m.eip n q) (jump_of c offset n m)
  jump_ends k c offset n q m sound keeps h =
      let taken = branch_target m.eip n offset in
      let past = next_address m.eip n in
      elim (is_met c m.flags) as (λ b. is_met c m.flags ≡ b → E d l image p blocks (jump d image k c offset m.eip n q) (Next (at_address (cond b taken past) m))) [
        | true ↦ λ e.
            joined_first d l image p blocks (lands_each taken (states_where d image k c q.state) q) (lands_each past (states_where d image k (negated c) q.state) q) (Next (at_address taken m))
            (lands_each_ends d l image p blocks (states_where d image k c q.state) taken q m (target_below m.eip n offset) (states_among k c q m sound keeps e h) h)
        | false ↦ λ e.
            joined_second d l image p blocks (lands_each taken (states_where d image k c q.state) q) (lands_each past (states_where d image k (negated c) q.state) q) (Next (at_address past m))
            (lands_each_ends d l image p blocks (states_where d image k (negated c) q.state) past q m (next_below m.eip n) (states_among k (negated c) q m sound keeps (negated_met c m.flags ∙ ap not e) h) h)
      ] refl

  -- ---- targets

  -- a number that is told of an address is that address
  abbrev Tells : Option ℕ → ℕ → Type 0
  Tells o a = (n : ℕ) → o ≡ Some n → a ≡ n

  landing_told : (o : Option ℕ) (a : ℕ) (q : Path D) (m : MachineState) → Tells o a → a < 2 ^ 32 → H d l image p blocks q m → E d l image p blocks (landing o q) (Next (at_address a m))
  landing_told o a q m tells less h = landing_at d l image p blocks o a q m tells less h

  by_value : (target : Operand) (n : ℕ) (q : Path D) (m : MachineState) (k : Option ℕ → Expanded D) (go : ℕ → Ended) → has_width B32 target ≡ true → H d l image p blocks q m
      → ((o : Option ℕ) (a : ℕ) → Tells o a → a < 2 ^ 32 → E d l image p blocks (k o) (go a)) → E d l image p blocks (reading d image q target (λ v. k (d.number_of v))) (reading_of m target go)
  by_value target n q m k go is h then =
      reading_width d l image p blocks B32 target q m (λ v. k (d.number_of v)) go is h (λ v x s. then (d.number_of v) x (λ z e. l.number_of_alone v z p x h.describes.fits.valid e s.stands) s.fits)

  targeting_ends : (target : Operand) (n : ℕ) (q : Path D) (m : MachineState) (k : Option ℕ → Expanded D) (go : ℕ → Ended) → is_target target ≡ true → H d l image p blocks q m
      → ((o : Option ℕ) (a : ℕ) → Tells o a → a < 2 ^ 32 → E d l image p blocks (k o) (go a)) → E d l image p blocks (targeting d image q target m.eip n k) (targeting_of m target n go)
  targeting_ends (Offset o) n q m k go is h then = then _ _ (λ z e. cc) (target_below m.eip n o)
  targeting_ends (Register w r) n q m k go is h then = by_value (Register w r) n q m k go is h then
  targeting_ends (Number w x) n q m k go is h then = by_value (Number w x) n q m k go is h then
  targeting_ends (Memory w a) n q m k go is h then = by_value (Memory w a) n q m k go is h then

  pub goto_ends : (target : Operand) (n : ℕ) (q : Path D) (m : MachineState) → is_target target ≡ true → H d l image p blocks q m
      → E d l image p blocks (goto d image target m.eip n q) (goto_of target n m)
  goto_ends target n q m is h = targeting_ends target n q m _ _ is h (λ o a tells less. landing_told o a q m tells less h)

  pub call_ends : (target : Operand) (n : ℕ) (q : Path D) (m : MachineState) → is_target target ≡ true → H d l image p blocks q m
      → E d l image p blocks (call d image target m.eip n q) (call_of target n m)
  call_ends target n q m is h =
      let next = next_address m.eip n in
      targeting_ends target n q m (λ o. pushing d image q (d.number next) (λ r. landing o r)) (λ a. pushing_of m next (λ t. Next (at_address a t))) is h (λ o a tells less.
      pushing_ends d l image p blocks q m (d.number next) next (λ r. landing o r) (λ t. Next (at_address a t)) (number_known d l image p blocks B32 next q m h (next_below m.eip n)) h (λ r t holds.
      landing_told o a r t tells less holds))

  pub return_ends : (extra : ℕ) (q : Path D) (m : MachineState) → extra < 2 ^ 32 → H d l image p blocks q m → E d l image p blocks (return d image extra q) (return_of extra m)
  return_ends extra q m less h =
      let sp = register_stands d l image p blocks ESP q m h in
      loading_ends d l image p blocks q m B32 _ _ _ _ h sp (λ v x s.
      let past = above_stands d l image p blocks _ _ 4 q m (omega arith) sp h in
      landing_ends d l image p blocks v x _ _ s (with_register_holds d l image p blocks ESP _ _ q m (above_stands d l image p blocks _ _ extra q m less past h) h))

  -- ---- loops

  pub zero_stands : (v : D) (x : ℕ) (q : Path D) (m : MachineState) → S d l image p blocks B32 v x → H d l image p blocks q m → StandsFor (is_zero d image.align v) (x == 0)
  zero_stands v x q m s h =
      let e = eval_stands d l image p blocks Eq B32 v (d.number 0) x 0 q m h s (number_known d l image p blocks B32 0 q m h (omega arith)) in
      subst (StandsFor (is_zero d image.align v)) (eq_zero B32 x s.fits) (number_stands d l p h.describes.fits.valid _ _ e.stands)

  pub counting_ends : (q : Path D) (m : MachineState) (k : D → Path D → Expanded D) (go : ℕ → MachineState → Ended) → H d l image p blocks q m
      → ((v : D) (x : ℕ) (r : Path D) (n : MachineState) → S d l image p blocks B32 v x → H d l image p blocks r n → E d l image p blocks (k v r) (go x n))
      → E d l image p blocks (counting_down d image q k) (counting_down_of m go)
  counting_ends q m k go h then =
      let count = below_stands d l image p blocks _ _ 1 q m (omega arith) (register_stands d l image p blocks ECX q m h) h in
      then _ _ _ _ count (with_register_holds d l image p blocks ECX _ _ q m count h)

  pub loop_ends : (kind : Looping) (offset : ℤ) (n : ℕ) (q : Path D) (m : MachineState) → H d l image p blocks q m
      → E d l image p blocks (loop d image kind offset m.eip n q) (loop_of kind offset n m)
  loop_ends kind offset n q m h =
      let taken = branch_target m.eip n offset in
      let past = next_address m.eip n in
      counting_ends q m
      (λ v r. branched (opposite (either (is_zero d image.align v) (opposite (meets_zero kind r.state.flags)))) taken past r)
      (λ x t. Next (at_address (cond (meets_zero_of kind t.flags && not (x == 0)) taken past) t)) h (λ v x r t s holds.
      let z = zero_stands v x r t s holds in
      let f = opposite_stands _ _ (zero_meets kind r.state.flags t.flags holds.describes.flags) in
      let both = opposite_stands _ _ (either_stands (is_zero d image.align v) (opposite (meets_zero kind r.state.flags)) (x == 0) (not (meets_zero_of kind t.flags)) z f) in
      branched_ends d l image p blocks _ _ taken past r t (subst (StandsFor (opposite (either (is_zero d image.align v) (opposite (meets_zero kind r.state.flags))))) (either_not (x == 0) (meets_zero_of kind t.flags)) both)
      (target_below m.eip n offset) (next_below m.eip n) holds)

  pub jump_if_no_count_ends : (offset : ℤ) (n : ℕ) (q : Path D) (m : MachineState) → H d l image p blocks q m
      → E d l image p blocks (jump_if_no_count d image offset m.eip n q) (jump_if_no_count_of offset n m)
  jump_if_no_count_ends offset n q m h =
      let count = register_stands d l image p blocks ECX q m h in
      branched_ends d l image p blocks _ _ _ _ q m (zero_stands _ _ q m count h) (target_below m.eip n offset) (next_below m.eip n) h

-- String operations, once and repeated: their expansion stands for what they do.
use Rattle.std.proofs.Common.{◌≡◌, ℕ, ◌+◌, ◌-◌, ◌<◌, ◌%◌, ◌^◌, Bool, true, false, cond, ◌==◌, ◌||◌, List, refl, subst, arith}
use Rattle.address_regions.specs.Places.{Places}
use Rattle.bit_words.specs.declared.width.Width.{Width}
use Rattle.bit_words.specs.declared.width.Width.TheVariants.{B8, B16, B32}
use Rattle.bit_words.specs.declared.op.Op.TheVariants.{Add, Sub}
use Rattle.bit_words.specs.Operators.{apply_op}
use Rattle.bit_words.specs.Width.{bytes_of}
use Rattle.domain_laws.specs.Laws.{Values, IsLawful}
use Rattle.memory_map.specs.declared.choice.Choice.{Choice}
use Rattle.memory_map.specs.Image.{Image}
use Rattle.memory_map.specs.State.{Flags, MachineState}
use Rattle.memory_map.specs.declared.registers.TheConstants.{EAX, ECX, ESI, EDI}
use Rattle.partitioned_memory.specs.declared.fact.Counted.{Counted}
use Rattle.x86_syntax.specs.declared.instr.Seg.{Seg}
use Rattle.x86_syntax.specs.declared.instr.Repeat.{Repeat}
use Rattle.x86_syntax.specs.declared.instr.Repeat.TheVariants.{Once, Rep, Repe, Repne}
use Rattle.x86_semantics.specs.declared.flag_rule.FlagRule.TheVariants.{Difference}
use Rattle.x86_semantics.specs.declared.operation.StringKind.{StringKind}
use Rattle.x86_semantics.specs.declared.operation.StringKind.TheVariants.{Move, Compare, Store, Load, Scan}
use Rattle.x86_semantics.specs.FlagRules.{flags_after}
use Rattle.x86_semantics.specs.Operands.{Ended, Next, at_address, segment_base}
use Rattle.x86_semantics.specs.Registers.{register as register_of}
use Rattle.x86_semantics.specs.Strings.{compared as compared_of, counted as counted_of, element as element_of, ends_by as ends_by_of, moved as moved_of, repeated as repeated_of, source_address, step_of, string as string_of}
use Rattle.abstract_state.specs.declared.truth.Truth.{Truth}
use Rattle.abstract_state.specs.declared.truth.Truth.TheVariants.{Yes, No, Unknown}
use Rattle.abstract_state.specs.declared.flags.Truths.{Truths}
use Rattle.abstract_state.specs.Expanding.{Expanded, Path, lands}
use Rattle.abstract_state.specs.Flags.{FlagsStand}
use Rattle.abstract_state.specs.Truth.{StandsFor, either}
use Rattle.abstract_state.proofs.Logic.{either_stands, opposite_stands}
use Rattle.abstract_state.proofs.Bridge.{any_known, loading_ends, number_known, storing_ends}
use Rattle.transfer_functions.specs.Flags.{ruled_truths}
use Rattle.transfer_functions.specs.Strings.{compared, counted, element, ends_by, moved, repeated, source_value, step_by, string}
use Rattle.transfer_functions.specs.Values.{branched, is_zero, on_state, register_value}
use Rattle.transfer_functions.proofs.Addresses.{add_is}
use Rattle.transfer_functions.proofs.FlagsSound.{ruled_stand}
use Rattle.transfer_functions.proofs.Knowing.{KnownWord, eval_known}
use Rattle.transfer_functions.proofs.Paths.{branched_ends, either_ends}
use Rattle.transfer_functions.proofs.SoundFlow.{counting_ends, zero_stands}
use Rattle.transfer_functions.proofs.Steps.{S, H, E, eval_stands, lands_ends, part_stands, register_stands, segment_stands, with_flags_holds, with_part_holds, with_register_holds}

-- whether a repetition ends by ZF
end_stands : (repeat : Repeat) (t : Truths) (f : Flags) → FlagsStand t f → StandsFor (ends_by repeat t) (ends_by_of repeat f)
end_stands Once t f h = refl
end_stands Rep t f h = refl
end_stands Repe t f h = opposite_stands t.zero f.zero h.zero
end_stands Repne t f h = h.zero

up_fits : (w : Width) → bytes_of w < 2 ^ 32
up_fits B8 = omega arith
up_fits B16 = omega arith
up_fits B32 = omega arith

down_fits : (w : Width) → 2 ^ 32 - bytes_of w < 2 ^ 32
down_fits B8 = omega arith
down_fits B16 = omega arith
down_fits B32 = omega arith

module _ {D : Type 0} (d : Values D) (l : IsLawful d) (image : Image) (p : Places) (blocks : List Counted) where
  -- how far ESI and EDI move
  step_stands : (w : Width) (t : Truth) (b : Bool) (q : Path D) (m : MachineState) → StandsFor t b → H d l image p blocks q m → S d l image p blocks B32 (step_by d w t) (cond b (2 ^ 32 - bytes_of w) (bytes_of w))
  step_stands w Yes true q m stands h = number_known d l image p blocks B32 (2 ^ 32 - bytes_of w) q m h (down_fits w)
  step_stands w Yes false q m stands h = cc
  step_stands w No true q m stands h = cc
  step_stands w No false q m stands h = number_known d l image p blocks B32 (bytes_of w) q m h (up_fits w)
  step_stands w Unknown true q m stands h = any_known d l image p blocks B32 (2 ^ 32 - bytes_of w) q m h (down_fits w)
  step_stands w Unknown false q m stands h = any_known d l image p blocks B32 (bytes_of w) q m h (up_fits w)

  moved_holds : (r : ℕ) (step : D) (by : ℕ) (q : Path D) (m : MachineState) → S d l image p blocks B32 step by → H d l image p blocks q m → H d l image p blocks (on_state (moved d image.align r step) q) (moved_of r by m)
  moved_holds r step by q m s h =
      with_register_holds d l image p blocks r _ _ q m (eval_stands d l image p blocks Add B32 _ step _ by q m h (register_stands d l image p blocks r q m h) s) h

  source_stands : (seg : Seg) (q : Path D) (m : MachineState) → H d l image p blocks q m → S d l image p blocks B32 (source_value d image.align seg q.state) (source_address seg m)
  source_stands seg q m h =
      let x = register_of ESI m in
      let base = segment_base seg m in
      let same : (base + x) % 2 ^ 32 ≡ apply_op Add B32 x base = (let sum = add_is x base in omega (arith, sum)) in
      subst (S d l image p blocks B32 (source_value d image.align seg q.state)) same (segment_stands d l image p blocks seg (register_value ESI q.state) x q m (register_stands d l image p blocks ESI q m h) h)

  compared_holds : (w : Width) (a b : D) (x y : ℕ) (choice : Choice) (q : Path D) (m : MachineState) → S d l image p blocks w a x → S d l image p blocks w b y → H d l image p blocks q m
      → H d l image p blocks (on_state (compared d image.align w a b) q) (compared_of w x y choice m)
  compared_holds w a b x y choice q m s t h =
      let f = h.describes.fits in
      let one : KnownWord d p w a x = record { stands = s.stands; fits = s.fits } in
      let two : KnownWord d p w b y = record { stands = t.stands; fits = t.fits } in
      let P : ℕ → Type 0 = λ k. FlagsStand (ruled_truths d k Difference w a b (d.eval Sub w a b k) q.state.flags) (flags_after Difference w x y (apply_op Sub w x y) choice m.flags) in
      let flags = ruled_stand d l p f.valid Difference w a b (d.eval Sub w a b p.align) x y (apply_op Sub w x y) q.state.flags m.flags choice refl one two (eval_known d l p f.valid Sub w a b x y one two) refl h.describes.flags in
      with_flags_holds d l image p blocks _ _ q m (subst P f.align flags) h

  -- one element
  element_ends : (kind : StringKind) (w : Width) (seg : Seg) (choice : Choice) (q : Path D) (m : MachineState) (k : Path D → Expanded D) (go : MachineState → Ended) → H d l image p blocks q m
      → ((r : Path D) (n : MachineState) → H d l image p blocks r n → E d l image p blocks (k r) (go n))
      → E d l image p blocks (element d image kind w seg q k) (element_of kind w seg (step_of w m.flags) choice m go)
  element_ends Move w seg choice q m k go h then =
      let step = step_stands w q.state.flags.direction m.flags.direction q m h.describes.flags.direction h in
      loading_ends d l image p blocks q m w _ _ _ _ h (source_stands seg q m h) (λ v x s.
      storing_ends d l image p blocks q m w _ v _ x _ _ h (register_stands d l image p blocks EDI q m h) s (λ r n holds _.
      then _ _ (moved_holds EDI _ _ _ _ step (moved_holds ESI _ _ r n step holds))))
  element_ends Compare w seg choice q m k go h then =
      let step = step_stands w q.state.flags.direction m.flags.direction q m h.describes.flags.direction h in
      loading_ends d l image p blocks q m w _ _ _ _ h (source_stands seg q m h) (λ a x s.
      loading_ends d l image p blocks q m w _ _ _ _ h (register_stands d l image p blocks EDI q m h) (λ b y t.
      then _ _ (moved_holds EDI _ _ _ _ step (moved_holds ESI _ _ _ _ step (compared_holds w a b x y choice q m s t h)))))
  element_ends Store w seg choice q m k go h then =
      let step = step_stands w q.state.flags.direction m.flags.direction q m h.describes.flags.direction h in
      storing_ends d l image p blocks q m w _ _ _ _ _ _ h (register_stands d l image p blocks EDI q m h) (part_stands d l image p blocks w EAX q m h) (λ r n holds _.
      then _ _ (moved_holds EDI _ _ r n step holds))
  element_ends Load w seg choice q m k go h then =
      let step = step_stands w q.state.flags.direction m.flags.direction q m h.describes.flags.direction h in
      loading_ends d l image p blocks q m w _ _ _ _ h (source_stands seg q m h) (λ v x s.
      then _ _ (moved_holds ESI _ _ _ _ step (with_part_holds d l image p blocks w EAX v x q m s h)))
  element_ends Scan w seg choice q m k go h then =
      let step = step_stands w q.state.flags.direction m.flags.direction q m h.describes.flags.direction h in
      loading_ends d l image p blocks q m w _ _ _ _ h (register_stands d l image p blocks EDI q m h) (λ b y t.
      then _ _ (moved_holds EDI _ _ _ _ step (compared_holds w _ b _ y choice q m (part_stands d l image p blocks w EAX q m h) t h)))

  -- ---- repetitions

  counted_ends : (repeat : Repeat) (next here : ℕ) (q : Path D) (m : MachineState) → next < 2 ^ 32 → here < 2 ^ 32 → H d l image p blocks q m
      → E d l image p blocks (counted d image repeat next here q) (counted_of repeat next here m)
  counted_ends repeat next here q m less also h =
      counting_ends d l image p blocks q m
      (λ v r. branched (either (is_zero d image.align v) (ends_by repeat r.state.flags)) next here r)
      (λ x t. Next (at_address (cond ((x == 0) || ends_by_of repeat t.flags) next here) t)) h (λ v x r t s holds.
      branched_ends d l image p blocks _ _ next here r t
      (either_stands (is_zero d image.align v) (ends_by repeat r.state.flags) (x == 0) (ends_by_of repeat t.flags) (zero_stands d l image p blocks v x r t s holds) (end_stands repeat r.state.flags t.flags holds.describes.flags))
      less also holds)

  repeated_ends : (repeat : Repeat) (kind : StringKind) (w : Width) (seg : Seg) (next : ℕ) (choice : Choice) (q : Path D) (m : MachineState) → next < 2 ^ 32 → H d l image p blocks q m
      → E d l image p blocks (repeated d image repeat kind w seg next m.eip q) (repeated_of repeat kind w seg next choice m)
  repeated_ends repeat kind w seg next choice q m less h =
      let count = register_stands d l image p blocks ECX q m h in
      either_ends d l image p blocks (is_zero d image.align (register_value ECX q.state)) (register_of ECX m == 0) _ _ _ _ (zero_stands d l image p blocks _ _ q m count h)
      (λ _. lands_ends d l image p blocks next q m less h)
      (λ _. element_ends kind w seg choice q m (counted d image repeat next m.eip) (counted_of repeat next m.eip) h (λ r n holds. counted_ends repeat next m.eip r n less h.describes.words.eip holds))

  pub string_ends : (kind : StringKind) (w : Width) (seg : Seg) (repeat : Repeat) (next : ℕ) (choice : Choice) (q : Path D) (m : MachineState) → next < 2 ^ 32 → H d l image p blocks q m
      → E d l image p blocks (string d image kind w seg repeat next m.eip q) (string_of kind w seg repeat next choice m)
  string_ends kind w seg Once next choice q m less h =
      element_ends kind w seg choice q m (λ r. lands next r) (λ n. Next (at_address next n)) h (λ r n holds. lands_ends d l image p blocks next r n less holds)
  string_ends kind w seg Rep next choice q m less h = repeated_ends Rep kind w seg next choice q m less h
  string_ends kind w seg Repe next choice q m less h = repeated_ends Repe kind w seg next choice q m less h
  string_ends kind w seg Repne next choice q m less h = repeated_ends Repne kind w seg next choice q m less h

-- Moves, jumps, calls, loops and string operations keep states well.
use Rattle.std.proofs.Common.{◌≡◌, ℕ, ◌-◌, ◌<◌, ◌^◌, true, false, cond, ◌==◌, ◌&&◌, ◌||◌, List, [], ◌∷◌, map, Option, Some, None, refl, sym, ◌∙◌, subst, arith, inl, inr}
use Rattle.std.specs.Prelude.{All, Contains, ℤ}
use Rattle.std.proofs.lemmas.Bool.{and_parts}
use Rattle.std.proofs.lemmas.List.Elements.{Contains-append_cases}
use Rattle.bit_words.specs.declared.width.Width.{Width}
use Rattle.bit_words.specs.declared.width.Width.TheVariants.{B8, B16, B32}
use Rattle.bit_words.specs.declared.op.Op.{Op}
use Rattle.bit_words.specs.declared.op.Op.TheVariants.{Add, PutLow16, Sub}
use Rattle.bit_words.specs.Width.{bits_of, bytes_of}
use Rattle.bit_words.proofs.Laws.{apply-lt}
use Rattle.domain_laws.specs.Laws.{Values, IsLawful}
use Rattle.memory_map.specs.Image.{Image}
use Rattle.memory_map.specs.Range.{HasBytes}
use Rattle.memory_map.specs.declared.registers.TheConstants.{EAX, ECX, ESP, EBP, ESI, EDI}
use Rattle.partitioned_memory.specs.declared.fact.Counted.{Counted}
use Rattle.partitioned_memory.specs.Well.{FitsWidth, MayHold}
use Rattle.partitioned_memory.proofs.Holding.{any-holds, number-holds}
use Rattle.x86_syntax.specs.declared.instr.Address.{Address}
use Rattle.x86_syntax.specs.declared.instr.Cond.{Cond}
use Rattle.x86_syntax.specs.declared.instr.Operand.{Operand}
use Rattle.x86_syntax.specs.declared.instr.Operand.TheVariants.{Register, Number, Memory, Offset}
use Rattle.x86_syntax.specs.declared.instr.Seg.{Seg}
use Rattle.x86_syntax.specs.declared.instr.Repeat.{Repeat}
use Rattle.x86_syntax.specs.declared.instr.Repeat.TheVariants.{Once, Rep, Repe, Repne}
use Rattle.x86_syntax.specs.Text.{next_address}
use Rattle.x86_semantics.specs.declared.operation.Looping.{Looping}
use Rattle.x86_semantics.specs.declared.operation.StringKind.{StringKind}
use Rattle.x86_semantics.specs.declared.operation.StringKind.TheVariants.{Move, Compare, Store, Load, Scan}
use Rattle.x86_semantics.specs.Operands.{branch_target}
use Rattle.x86_semantics.specs.Widths.{fits_width, has_place, has_width, is_place, is_register, is_target, is_value, is_width, is_within, width_of}
use Rattle.flow_log.specs.declared.cause.Cause.{Cause}
use Rattle.flow_log.specs.declared.cause.Cause.TheVariants.{Target}
use Rattle.flow_log.proofs.Members.{Contains-cases, Contains-here, Contains-later}
use Rattle.abstract_state.specs.declared.truth.Truth.{Truth}
use Rattle.abstract_state.specs.declared.truth.Truth.TheVariants.{Yes, No, Unknown}
use Rattle.abstract_state.specs.Expanding.{Expanded, Path, Written, joined, lands, stopped}
use Rattle.abstract_state.specs.Flags.{truth_met}
use Rattle.abstract_state.specs.declared.note.Note.{Note}
use Rattle.abstract_state.specs.declared.note.Note.TheVariants as notes
use Rattle.abstract_state.specs.Laws.{RefiningKeepsWell}
use Rattle.abstract_state.specs.Notes.{compared_with}
use Rattle.abstract_state.specs.Refining.{narrowed, narrowed_states, noted_value, refined, refined_by, with_noted_value}
use Rattle.abstract_state.specs.State.{Known, with_parts}
use Rattle.address_regions.specs.declared.region.Region.TheVariants.{Stack}
use Rattle.partitioned_memory.specs.declared.area.Area.TheVariants.{In}
use Rattle.partitioned_memory.specs.Held.{after_exact}
use Rattle.abstract_state.specs.Truth.{either, opposite}
use Rattle.transfer_functions.specs.Flow.{call, counting_down, goto, jump, jump_if_no_count, landing, lands_each, loop, meets_zero, negated, return, states_by, states_where, targeting}
use Rattle.transfer_functions.specs.Moves.{convert, exchange, lea, leave, move, move_if, pop, popped, push, pushing, set, stack_pointer, word_below}
use Rattle.transfer_functions.specs.Strings.{compared, counted, element, ends_by, moved, repeated, step_by, string}
use Rattle.transfer_functions.specs.Values.{above, below, branched, either_way, is_zero, offset_value, on_state, reading, register_value, value_of_truth, writing}
use Rattle.transfer_functions.proofs.Holds.{eval-holds, holds-within}
use Rattle.transfer_functions.proofs.Keeping.{IsWellNext, IsWellPath, KeepsWell, StoresKeep, lands_keeps, loading_keeps, no_pair, offset_counted, one_pair, part_holds, reading_keeps, register_holds, storing_keeps, with_flags_keeps, with_part_keeps, with_register_keeps, writing_keeps}
use Rattle.transfer_functions.proofs.SoundMoves.{width_back, width_within}
use Rattle.transfer_functions.proofs.SoundArithmetic.{place_is_value}

-- each member of a list that a function gives is what it gives of a member
mapped_from : {X Y : Type 0} (P : Y → Type 0) (f : X → Y) (xs : List X) (y : Y) → ((x : X) → Contains xs x → P (f x)) → Contains (map f xs) y → P y
mapped_from P f [] y each held = no_pair P y held
mapped_from P f (x ∷ xs) y each held =
    elim (Contains-cases (f x) y (map f xs) held) [
      | inl first ↦ subst P first (each x (Contains-here x xs))
      | inr later ↦ mapped_from P f xs y (λ z h. each z (Contains-later x z xs h)) later
    ]

-- refining changes no counts
noted_blocks : {D : Type 0} (d : Values D) (n : Note) (s : Known D) (v : D) → (with_noted_value d n s v).parts.blocks ≡ s.parts.blocks
noted_blocks d (notes.Register r c) s v = refl
noted_blocks {D} d (notes.Word o c) s v =
    elim (d.rank v == 0) as (λ b. (let t : Known D = cond b s (with_parts (after_exact d (In Stack) o B32 v s.parts) s) in t).parts.blocks ≡ s.parts.blocks) [ true ↦ refl | false ↦ refl ]

narrowed_blocks : {D : Type 0} (d : Values D) (n : Note) (s t : Known D) (o : Option (List D)) → Contains (narrowed_states d n s o) t → t.parts.blocks ≡ s.parts.blocks
narrowed_blocks {D} d n s t None held = one_pair (λ (u : Known D). u.parts.blocks ≡ s.parts.blocks) s t refl held
narrowed_blocks {D} d n s t (Some values) held =
    mapped_from (λ (u : Known D). u.parts.blocks ≡ s.parts.blocks) (with_noted_value d n s) values t (λ v _. noted_blocks d n s v) held

pub refined_blocks : {D : Type 0} (d : Values D) (image : Image) (k : ℕ) (c : Cond) (s t : Known D) → Contains (refined d image k c s) t → t.parts.blocks ≡ s.parts.blocks
unfolding refined
refined_blocks {D} d image k c s t held =
    elim s.note as (λ o. Contains (refined_by d image k c o s) t → t.parts.blocks ≡ s.parts.blocks) [
      | None ↦ λ h. one_pair (λ (u : Known D). u.parts.blocks ≡ s.parts.blocks) s t refl h
      | Some n ↦ λ h. narrowed_blocks d n s t (narrowed d k c (noted_value d image n s) (compared_with n)) h
    ] held

step_fits : (w : Width) → bytes_of w < 2 ^ 32
step_fits B8 = omega arith
step_fits B16 = omega arith
step_fits B32 = omega arith

back_fits : (w : Width) → 2 ^ 32 - bytes_of w < 2 ^ 32
back_fits B8 = omega arith
back_fits B16 = omega arith
back_fits B32 = omega arith

module _ {D : Type 0} (d : Values D) (l : IsLawful d) (image : Image) (blocks : List Counted) (bytes : All HasBytes image.segments) (stores : StoresKeep d l image blocks) where
  abbrev K : Expanded D → Type 0
  K x = KeepsWell d l image blocks x

  abbrev W : Path D → Type 0
  W q = IsWellPath d l image blocks q

  abbrev M : Width → D → Type 0
  M w v = MayHold d blocks w v

  abbrev N : Known D → Type 0
  N s = IsWellNext d l image blocks s

  -- ---- where paths go

  joined_keeps : (x y : Expanded D) → K x → K y → K (joined x y)
  joined_keeps x y h k pair held = elim (Contains-append_cases x.next y.next pair held) [ inl a ↦ h pair a | inr b ↦ k pair b ]

  pub either_keeps : (t : Truth) (x y : Expanded D) → K x → K y → K (either_way t x y)
  either_keeps Yes x y h k = h
  either_keeps No x y h k = k
  either_keeps Unknown x y h k = joined_keeps x y h k

  branched_keeps : (t : Truth) (taken past : ℕ) (q : Path D) → W q → K (branched t taken past q)
  branched_keeps t taken past q h = either_keeps t (lands taken q) (lands past q) (lands_keeps d l image blocks taken q h) (lands_keeps d l image blocks past q h)

  stopped_keeps : (c : Cause) (ws : List Written) → K (stopped c ws)
  stopped_keeps c ws pair held = no_pair (λ (n : ℕ × Known D). N n.1) pair held

  landing_keeps : (o : Option ℕ) (q : Path D) → W q → K (landing o q)
  landing_keeps None q h = stopped_keeps Target q.writes
  landing_keeps (Some a) q h = lands_keeps d l image blocks a q h

  lands_each_keeps : (a : ℕ) (states : List (Known D)) (q : Path D) → ((s : Known D) → Contains states s → N s) → K (lands_each a states q)
  lands_each_keeps a states q each pair held = mapped_from (λ (n : ℕ × Known D). N n.1) (λ s. (a, s)) states pair each held

  -- ---- values

  eval_holds : (op : Op) (w : Width) (a b : D) → M w a → M w b → M w (d.eval op w a b image.align)
  eval_holds op w a b m n = eval-holds d l blocks op w w w a b image.align m n

  number_holds : (w : Width) (n : ℕ) → n < 2 ^ bits_of w → M w (d.number n)
  number_holds w n less = number-holds d l blocks w n less

  above_holds : (v : D) (n : ℕ) → n < 2 ^ 32 → M B32 v → M B32 (above d image.align v (d.number n))
  above_holds v n less m = eval_holds Add B32 v (d.number n) m (number_holds B32 n less)

  below_holds : (v : D) (n : ℕ) → n < 2 ^ 32 → M B32 v → M B32 (below d image.align v (d.number n))
  below_holds v n less m = eval_holds Sub B32 v (d.number n) m (number_holds B32 n less)

  own_register : (r : ℕ) (q : Path D) → W q → M B32 (register_value r q.state)
  own_register r q h = register_holds d l image blocks r q h

  truth_holds : (t : Truth) → M B8 (value_of_truth d t)
  truth_holds Yes = number_holds B8 1 (omega arith)
  truth_holds No = number_holds B8 0 (omega arith)
  truth_holds Unknown = any-holds d l blocks B8

  -- ---- operands

  within_keeps : (w : Width) (o : Operand) (q : Path D) (k : D → Expanded D) → fits_width w o ≡ true → W q → ((v : D) → M w v → K (k v)) → K (reading d image q o k)
  within_keeps w o q k is h then =
      let parts = and_parts (is_value o) (is_within (width_of o) w) is in
      reading_keeps d l image blocks o q k bytes parts.0 h (λ v m. then v (holds-within d blocks (width_of o) w v parts.1 m))

  width_keeps : (w : Width) (o : Operand) (q : Path D) (k : D → Expanded D) → has_width w o ≡ true → W q → ((v : D) → M w v → K (k v)) → K (reading d image q o k)
  width_keeps w o q k is h then =
      let parts = and_parts (is_value o) (is_width (width_of o) w) is in
      reading_keeps d l image blocks o q k bytes parts.0 h (λ v m. then v (holds-within d blocks (width_of o) w v (width_within (width_of o) w parts.1) m))

  place_keeps : (w : Width) (o : Operand) (v : D) (q : Path D) (k : Path D → Expanded D) → has_place w o ≡ true → M w v → W q → ((r : Path D) → W r → K (k r)) → K (writing d image q o v k)
  place_keeps w o v q k is m h then =
      let parts = and_parts (is_place o) (is_width (width_of o) w) is in
      writing_keeps d l image blocks o v q k stores parts.0 (holds-within d blocks w (width_of o) v (width_back (width_of o) w parts.1) m) h then

  -- ---- moves

  pub move_keeps : (to from : Operand) (next : ℕ) (q : Path D) → is_place to ≡ true → fits_width (width_of to) from ≡ true → W q → K (move d image to from next q)
  move_keeps to from next q place is h =
      within_keeps (width_of to) from q _ is h (λ v m. writing_keeps d l image blocks to v q _ stores place m h (λ r k. lands_keeps d l image blocks next r k))

  pub convert_keeps : (op : Op) (w : Width) (to from : Operand) (by next : ℕ) (q : Path D) → by < 2 ^ bits_of w → has_place w to ≡ true → fits_width w from ≡ true → W q → K (convert d image op w to from by next q)
  convert_keeps op w to from by next q less place is h =
      within_keeps w from q _ is h (λ v m. place_keeps w to _ q _ place (eval_holds op w v (d.number by) m (number_holds w by less)) h (λ r k. lands_keeps d l image blocks next r k))

  offset_fits : (a : Address) (q : Path D) → FitsWidth d B32 (offset_value d image.align a q.state)
  unfolding offset_value
  offset_fits a q n e = let is = l.eval_number Add B32 _ _ image.align n e in subst (λ (x : ℕ). x < 2 ^ 32) (sym is.is) (apply-lt Add B32 is.first is.second)

  offset_holds : (a : Address) (q : Path D) → W q → M B32 (offset_value d image.align a q.state)
  offset_holds a q h = record { fits = offset_fits a q; counted = offset_counted d l image blocks a q h }

  pub lea_keeps : (to : Operand) (address : Address) (next : ℕ) (q : Path D) → (is_register to && (has_place B16 to || has_place B32 to)) ≡ true → W q → K (lea d image to address next q)
  lea_keeps (Register B8 r) address next q is h = cc
  lea_keeps (Register B16 r) address next q is h =
      lands_keeps d l image blocks next _ (with_register_keeps d l image blocks r _ q (eval_holds PutLow16 B32 _ _ (own_register r q h) (offset_holds address q h)) h)
  lea_keeps (Register B32 r) address next q is h = lands_keeps d l image blocks next _ (with_register_keeps d l image blocks r _ q (offset_holds address q h) h)
  lea_keeps (Number w n) address next q is h = cc
  lea_keeps (Memory w a) address next q is h = cc
  lea_keeps (Offset o) address next q is h = cc

  pub exchange_keeps : (place : Operand) (w : Width) (r next : ℕ) (q : Path D) → has_place w place ≡ true → W q → K (exchange d image place w r next q)
  exchange_keeps place w r next q is h =
      let parts = and_parts (is_place place) (is_width (width_of place) w) is in
      reading_keeps d l image blocks place q _ bytes (place_is_value place parts.0) h (λ v m.
      place_keeps w place _ q _ is (part_holds d l image blocks w r q h) h (λ t k.
      lands_keeps d l image blocks next _ (with_part_keeps d l image blocks w r v t (holds-within d blocks (width_of place) w v (width_within (width_of place) w parts.1) m) k)))

  pub set_keeps : (c : Cond) (to : Operand) (next : ℕ) (q : Path D) → has_place B8 to ≡ true → W q → K (set d image c to next q)
  set_keeps c to next q is h = place_keeps B8 to _ q _ is (truth_holds (truth_met c q.state.flags)) h (λ r k. lands_keeps d l image blocks next r k)

  pub move_if_keeps : (c : Cond) (to from : Operand) (next : ℕ) (q : Path D) → is_place to ≡ true → has_width (width_of to) from ≡ true → W q → K (move_if d image c to from next q)
  move_if_keeps c to from next q place is h =
      width_keeps (width_of to) from q _ is h (λ v m.
      either_keeps (truth_met c q.state.flags) _ _ (writing_keeps d l image blocks to v q _ stores place m h (λ r k. lands_keeps d l image blocks next r k)) (lands_keeps d l image blocks next q h))

  -- ---- the stack

  pushing_keeps : (q : Path D) (v : D) (k : Path D → Expanded D) → M B32 v → W q → ((r : Path D) → W r → K (k r)) → K (pushing d image q v k)
  pushing_keeps q v k m h then =
      let to = below_holds (stack_pointer q.state) 4 (omega arith) (own_register ESP q h) in
      storing_keeps d l image blocks q B32 (word_below d image q.state) v _ stores to.counted m h (λ r own. then _ (with_register_keeps d l image blocks ESP _ r to own))

  pub push_keeps : (from : Operand) (next : ℕ) (q : Path D) → has_width B32 from ≡ true → W q → K (push d image from next q)
  push_keeps from next q is h = width_keeps B32 from q _ is h (λ v m. pushing_keeps q v (λ r. lands next r) m h (λ r k. lands_keeps d l image blocks next r k))

  popped_keeps : (q : Path D) → W q → W (on_state (popped d image) q)
  popped_keeps q h = with_register_keeps d l image blocks ESP _ q (above_holds (stack_pointer q.state) 4 (omega arith) (own_register ESP q h)) h

  pub pop_keeps : (to : Operand) (next : ℕ) (q : Path D) → has_place B32 to ≡ true → W q → K (pop d image to next q)
  pop_keeps to next q is h =
      loading_keeps d l image blocks q B32 _ _ bytes h (λ v m. place_keeps B32 to v _ (λ r. lands next r) is m (popped_keeps q h) (λ r k. lands_keeps d l image blocks next r k))

  pub leave_keeps : (next : ℕ) (q : Path D) → W q → K (leave d image next q)
  leave_keeps next q h =
      loading_keeps d l image blocks q B32 _ _ bytes h (λ v m.
      let first = with_register_keeps d l image blocks ESP _ q (above_holds _ 4 (omega arith) (own_register EBP q h)) h in
      lands_keeps d l image blocks next _ (with_register_keeps d l image blocks EBP v _ m first))

  -- ---- jumps, calls and loops

  states_well : (k : ℕ) (c : Cond) (s t : Known D) → RefiningKeepsWell d → N s → Contains (states_where d image k c s) t → N t
  states_well k c s t keeps own held =
      elim (truth_met c s.flags) as (λ z. Contains (states_by d image k z c s) t → N t) [
        | Yes ↦ λ h. one_pair N s t own h
        | No ↦ λ h. no_pair N t h
        | Unknown ↦ λ h. record { well = keeps image k c s t own.well h; blocks_same = refined_blocks d image k c s t h ∙ own.blocks_same }
      ] held

  pub jump_keeps : (k : ℕ) (c : Cond) (offset : ℤ) (at n : ℕ) (q : Path D) → RefiningKeepsWell d → W q → K (jump d image k c offset at n q)
  jump_keeps k c offset at n q keeps h =
      joined_keeps (lands_each (branch_target at n offset) (states_where d image k c q.state) q) (lands_each (next_address at n) (states_where d image k (negated c) q.state) q)
      (lands_each_keeps (branch_target at n offset) (states_where d image k c q.state) q (λ s held. states_well k c q.state s keeps (record { well = h.well; blocks_same = h.blocks_same }) held))
      (lands_each_keeps (next_address at n) (states_where d image k (negated c) q.state) q (λ s held. states_well k (negated c) q.state s keeps (record { well = h.well; blocks_same = h.blocks_same }) held))

  targeting_keeps : (target : Operand) (at n : ℕ) (q : Path D) (k : Option ℕ → Expanded D) → is_target target ≡ true → W q → ((o : Option ℕ) → K (k o)) → K (targeting d image q target at n k)
  targeting_keeps (Offset o) at n q k is h then = then _
  targeting_keeps (Register w r) at n q k is h then = width_keeps B32 (Register w r) q (λ v. k (d.number_of v)) is h (λ v m. then (d.number_of v))
  targeting_keeps (Number w x) at n q k is h then = width_keeps B32 (Number w x) q (λ v. k (d.number_of v)) is h (λ v m. then (d.number_of v))
  targeting_keeps (Memory w a) at n q k is h then = width_keeps B32 (Memory w a) q (λ v. k (d.number_of v)) is h (λ v m. then (d.number_of v))

  pub goto_keeps : (target : Operand) (at n : ℕ) (q : Path D) → is_target target ≡ true → W q → K (goto d image target at n q)
  goto_keeps target at n q is h = targeting_keeps target at n q (λ o. landing o q) is h (λ o. landing_keeps o q h)

  pub call_keeps : (target : Operand) (at n : ℕ) (q : Path D) → is_target target ≡ true → W q → K (call d image target at n q)
  call_keeps target at n q is h =
      let next = next_address at n in
      targeting_keeps target at n q (λ o. pushing d image q (d.number next) (λ r. landing o r)) is h (λ o.
      pushing_keeps q (d.number next) (λ r. landing o r) (number_holds B32 next (omega arith)) h (λ r k. landing_keeps o r k))

  pub return_keeps : (extra : ℕ) (q : Path D) → extra < 2 ^ 32 → W q → K (return d image extra q)
  return_keeps extra q less h =
      loading_keeps d l image blocks q B32 _ _ bytes h (λ v m.
      landing_keeps (d.number_of v) _ (with_register_keeps d l image blocks ESP _ q (above_holds _ extra less (above_holds _ 4 (omega arith) (own_register ESP q h))) h))

  counting_keeps : (q : Path D) (k : D → Path D → Expanded D) → W q → ((v : D) (r : Path D) → W r → K (k v r)) → K (counting_down d image q k)
  counting_keeps q k h then = then _ _ (with_register_keeps d l image blocks ECX _ q (below_holds _ 1 (omega arith) (own_register ECX q h)) h)

  pub loop_keeps : (kind : Looping) (offset : ℤ) (at n : ℕ) (q : Path D) → W q → K (loop d image kind offset at n q)
  loop_keeps kind offset at n q h =
      counting_keeps q (λ v r. branched (opposite (either (is_zero d image.align v) (opposite (meets_zero kind r.state.flags)))) (branch_target at n offset) (next_address at n) r) h (λ v r k.
      branched_keeps _ _ _ r k)

  pub jump_if_no_count_keeps : (offset : ℤ) (at n : ℕ) (q : Path D) → W q → K (jump_if_no_count d image offset at n q)
  jump_if_no_count_keeps offset at n q h = branched_keeps _ _ _ q h

  -- ---- strings

  step_holds : (w : Width) (t : Truth) → M B32 (step_by d w t)
  step_holds w Yes = number_holds B32 (2 ^ 32 - bytes_of w) (back_fits w)
  step_holds w No = number_holds B32 (bytes_of w) (step_fits w)
  step_holds w Unknown = any-holds d l blocks B32

  moved_keeps : (r : ℕ) (step : D) (q : Path D) → M B32 step → W q → W (on_state (moved d image.align r step) q)
  moved_keeps r step q m h = with_register_keeps d l image blocks r _ q (eval_holds Add B32 _ step (own_register r q h) m) h

  compared_keeps : (w : Width) (a b : D) (q : Path D) → W q → W (on_state (compared d image.align w a b) q)
  compared_keeps w a b q h = with_flags_keeps d l image blocks _ q h

  element_keeps : (kind : StringKind) (w : Width) (seg : Seg) (q : Path D) (k : Path D → Expanded D) → W q → ((r : Path D) → W r → K (k r)) → K (element d image kind w seg q k)
  element_keeps Move w seg q k h then =
      let step = step_holds w q.state.flags.direction in
      loading_keeps d l image blocks q w _ _ bytes h (λ v m.
      storing_keeps d l image blocks q w _ v _ stores (own_register EDI q h).counted m h (λ r own. then _ (moved_keeps EDI _ _ step (moved_keeps ESI _ r step own))))
  element_keeps Compare w seg q k h then =
      let step = step_holds w q.state.flags.direction in
      loading_keeps d l image blocks q w _ _ bytes h (λ a m.
      loading_keeps d l image blocks q w _ _ bytes h (λ b n.
      then _ (moved_keeps EDI _ _ step (moved_keeps ESI _ _ step (compared_keeps w a b q h)))))
  element_keeps Store w seg q k h then =
      let step = step_holds w q.state.flags.direction in
      storing_keeps d l image blocks q w _ _ _ stores (own_register EDI q h).counted (part_holds d l image blocks w EAX q h) h (λ r own. then _ (moved_keeps EDI _ r step own))
  element_keeps Load w seg q k h then =
      let step = step_holds w q.state.flags.direction in
      loading_keeps d l image blocks q w _ _ bytes h (λ v m. then _ (moved_keeps ESI _ _ step (with_part_keeps d l image blocks w EAX v q m h)))
  element_keeps Scan w seg q k h then =
      let step = step_holds w q.state.flags.direction in
      loading_keeps d l image blocks q w _ _ bytes h (λ b m. then _ (moved_keeps EDI _ _ step (compared_keeps w _ b q h)))

  repeated_keeps : (repeat : Repeat) (kind : StringKind) (w : Width) (seg : Seg) (next here : ℕ) (q : Path D) → W q → K (repeated d image repeat kind w seg next here q)
  repeated_keeps repeat kind w seg next here q h =
      either_keeps (is_zero d image.align (register_value ECX q.state)) (lands next q) (element d image kind w seg q (counted d image repeat next here)) (lands_keeps d l image blocks next q h)
      (element_keeps kind w seg q (counted d image repeat next here) h (λ r k.
      counting_keeps r (λ v t. branched (either (is_zero d image.align v) (ends_by repeat t.state.flags)) next here t) k (λ v t own. branched_keeps _ next here t own)))

  pub string_keeps : (kind : StringKind) (w : Width) (seg : Seg) (repeat : Repeat) (next here : ℕ) (q : Path D) → W q → K (string d image kind w seg repeat next here q)
  string_keeps kind w seg Once next here q h = element_keeps kind w seg q (λ r. lands next r) h (λ r k. lands_keeps d l image blocks next r k)
  string_keeps kind w seg Rep next here q h = repeated_keeps Rep kind w seg next here q h
  string_keeps kind w seg Repe next here q h = repeated_keeps Repe kind w seg next here q h
  string_keeps kind w seg Repne next here q h = repeated_keeps Repne kind w seg next here q h

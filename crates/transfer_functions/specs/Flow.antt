-- Jumps, calls and loops, read with values: beside `x86_semantics/specs/Flow`.
use Rattle.std.specs.Prelude.{ℕ, ◌+◌, ◌-◌, ◌%◌, ◌==◌, if◌then◌else◌, List, [], ◌∷◌, map, Option, None, Some, ℤ}
use Rattle.bit_words.specs.declared.width.Width.TheVariants.{B32}
use Rattle.memory_map.specs.Image.{Image}
use Rattle.memory_map.specs.declared.registers.TheConstants.{ECX, ESP}
use Rattle.flow_log.specs.declared.cause.Cause.TheVariants.{Target}
use Rattle.domain_laws.specs.Laws.{Values}
use Rattle.x86_syntax.specs.declared.instr.Cond.{Cond}
use Rattle.x86_syntax.specs.declared.instr.Operand.{Operand}
use Rattle.x86_syntax.specs.declared.instr.Operand.TheVariants.{Offset}
use Rattle.x86_syntax.specs.Text.{next_address}
use Rattle.x86_semantics.specs.declared.operation.Looping.{Looping}
use Rattle.x86_semantics.specs.declared.operation.Looping.TheVariants.{Counted, Equal, NotEqual}
use Rattle.x86_semantics.specs.Operands.{branch_target}
use Rattle.abstract_state.specs.declared.truth.Truth.{Truth}
use Rattle.abstract_state.specs.declared.truth.Truth.TheVariants.{Yes, No, Unknown}
use Rattle.abstract_state.specs.declared.flags.Truths.{Truths}
use Rattle.abstract_state.specs.Truth.{either, opposite}
use Rattle.abstract_state.specs.Flags.{truth_met}
use Rattle.abstract_state.specs.State.{Known}
use Rattle.abstract_state.specs.Expanding.{Expanded, Path, joined, lands, stopped}
use Rattle.abstract_state.specs.Accessing.{loading}
use Rattle.abstract_state.specs.Refining.{refined}
use Rattle.transfer_functions.specs.Values.{above, below, branched, is_zero, on_state, reading, register_value, with_register}
use Rattle.transfer_functions.specs.Moves.{past_word, pushing, stack_pointer}

-- ---- targets

-- at a known address, or with the cause that the target is not known
abbrev pub landing : {D : Type 0} → Option ℕ → Path D → Expanded D
landing (Some a) p = lands a p
landing None p = stopped Target p.writes

-- several states at one address, each in its order
abbrev pub lands_each : {D : Type 0} → ℕ → List (Known D) → Path D → Expanded D
lands_each a states p = record { next = map (λ s. (a, s)) states; causes = []; writes = p.writes }

-- ---- conditional jumps

-- the condition that holds where this one does not: an odd number negates the even one before it
abbrev pub negated : Cond → Cond
negated c = record { 0 = if c.0 % 2 == 0 then c.0 + 1 else c.0 - 1 }

module _ {D : Type 0} (d : Values D) (image : Image) (k : ℕ) where
  -- the states in which a condition may hold, by what is known of it: refined where it is unknown
  abbrev pub states_by : Truth → Cond → Known D → List (Known D)
  states_by Yes c s = s ∷ []
  states_by No c s = []
  states_by Unknown c s = refined d image k c s

  abbrev pub states_where : Cond → Known D → List (Known D)
  states_where c s = states_by (truth_met c s.flags) c s

  -- taken where the condition may hold, then not taken where it may not
  abbrev pub jump : Cond → ℤ → ℕ → ℕ → Path D → Expanded D
  jump c offset at n p =
      joined (lands_each (branch_target at n offset) (states_where c p.state) p) (lands_each (next_address at n) (states_where (negated c) p.state) p)

-- whether ZF lets a loop go on
abbrev pub meets_zero : Looping → Truths → Truth
meets_zero Counted t = Yes
meets_zero Equal t = t.zero
meets_zero NotEqual t = opposite t.zero

module _ {D : Type 0} (d : Values D) (align : ℕ) where
  abbrev pub one_less : Known D → D
  one_less s = below d align (register_value ECX s) (d.number 1)

module _ {D : Type 0} (d : Values D) (image : Image) where
  -- where a jump or a call goes, where that is known: by an offset, or to the address that an operand holds
  abbrev pub targeting : Path D → Operand → ℕ → ℕ → (Option ℕ → Expanded D) → Expanded D
  targeting p (Offset o) at n k = k (Some (branch_target at n o))
  targeting p target at n k = reading d image p target (λ v. k (d.number_of v))

  abbrev pub goto : Operand → ℕ → ℕ → Path D → Expanded D
  goto target at n p = targeting p target at n (λ a. landing a p)

  -- the target is read first, and then the address after the call is pushed
  abbrev pub call : Operand → ℕ → ℕ → Path D → Expanded D
  call target at n p = targeting p target at n (λ a. pushing d image p (d.number (next_address at n)) (λ q. landing a q))

  -- the return address is popped, and then `extra` bytes more
  abbrev pub returned : ℕ → Known D → Known D
  returned extra s = with_register ESP (above d image.align (past_word d image s) (d.number extra)) s

  abbrev pub return : ℕ → Path D → Expanded D
  return extra p = loading d image p B32 (stack_pointer p.state) (λ v. landing (d.number_of v) (on_state (returned extra) p))

  -- ECX one less, with the count and the path then
  abbrev pub counting_down : Path D → (D → Path D → Expanded D) → Expanded D
  counting_down p k = k (one_less d image.align p.state) (on_state (λ s. with_register ECX (one_less d image.align s) s) p)

  -- the loop ends where ECX has come to 0 or ZF is not as it should; no state is refined
  abbrev pub loop : Looping → ℤ → ℕ → ℕ → Path D → Expanded D
  loop kind offset at n p =
      counting_down p (λ count q. branched (opposite (either (is_zero d image.align count) (opposite (meets_zero kind q.state.flags)))) (branch_target at n offset) (next_address at n) q)

  abbrev pub jump_if_no_count : ℤ → ℕ → ℕ → Path D → Expanded D
  jump_if_no_count offset at n p =
      branched (is_zero d image.align (register_value ECX p.state)) (branch_target at n offset) (next_address at n) p

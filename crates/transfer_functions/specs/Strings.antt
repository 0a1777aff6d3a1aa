-- String operations, once and repeated, read with values: beside `x86_semantics/specs/Strings`.
use Rattle.std.specs.Prelude.{ℕ, ◌-◌, ◌^◌}
use Rattle.bit_words.specs.declared.width.Width.{Width}
use Rattle.bit_words.specs.declared.op.Op.TheVariants.{Sub}
use Rattle.bit_words.specs.Width.{bytes_of}
use Rattle.memory_map.specs.Image.{Image}
use Rattle.memory_map.specs.declared.registers.TheConstants.{EAX, ECX, ESI, EDI}
use Rattle.domain_laws.specs.Laws.{Values}
use Rattle.x86_syntax.specs.declared.instr.Seg.{Seg}
use Rattle.x86_syntax.specs.declared.instr.Repeat.{Repeat}
use Rattle.x86_syntax.specs.declared.instr.Repeat.TheVariants.{Once, Repe, Repne}
use Rattle.x86_semantics.specs.declared.flag_rule.FlagRule.TheVariants.{Difference}
use Rattle.x86_semantics.specs.declared.operation.StringKind.{StringKind}
use Rattle.x86_semantics.specs.declared.operation.StringKind.TheVariants.{Move, Compare, Store, Load, Scan}
use Rattle.abstract_state.specs.declared.truth.Truth.{Truth}
use Rattle.abstract_state.specs.declared.truth.Truth.TheVariants.{Yes, No, Unknown}
use Rattle.abstract_state.specs.declared.flags.Truths.{Truths}
use Rattle.abstract_state.specs.Truth.{either, opposite}
use Rattle.abstract_state.specs.State.{Known}
use Rattle.abstract_state.specs.Expanding.{Expanded, Path, lands}
use Rattle.abstract_state.specs.Accessing.{loading, storing}
use Rattle.transfer_functions.specs.Values.{above, branched, either_way, in_segment, is_zero, on_state, part, register_value, with_part, with_register}
use Rattle.transfer_functions.specs.Arithmetic.{with_ruled}
use Rattle.transfer_functions.specs.Flow.{counting_down}

-- whether a repetition ends by ZF
abbrev pub ends_by : Repeat → Truths → Truth
ends_by Repe t = opposite t.zero
ends_by Repne t = t.zero
ends_by _ t = No

-- where the element at EDI is
abbrev pub target_value : {D : Type 0} → Known D → D
target_value s = register_value EDI s

module _ {D : Type 0} (d : Values D) where
  -- how far ESI and EDI move: by the width, up where DF is clear, down where it is set, and by any where that is unknown
  abbrev pub step_by : Width → Truth → D
  step_by w No = d.number (bytes_of w)
  step_by w Yes = d.number (2 ^ 32 - bytes_of w)
  step_by w Unknown = d.any

module _ {D : Type 0} (d : Values D) (align : ℕ) where
  -- a register moved by a step
  abbrev pub moved : ℕ → D → Known D → Known D
  moved r step s = with_register r (above d align (register_value r s) step) s

  -- ESI and then EDI moved by a step
  abbrev pub moved_both : D → Known D → Known D
  moved_both step s = moved EDI step (moved ESI step s)

  -- where the element at ESI is: its segment may be another
  abbrev pub source_value : Seg → Known D → D
  source_value seg s = in_segment d align seg (register_value ESI s)

  -- the flags of a comparison of two elements
  abbrev pub compared : Width → D → D → Known D → Known D
  compared w a b s = with_ruled d align Difference w a b (d.eval Sub w a b align) s

module _ {D : Type 0} (d : Values D) (image : Image) where
  -- one element of MOVS, CMPS, STOS, LODS and SCAS, at a step; CMPS reads the one at ESI first
  abbrev pub move_element : Width → Seg → D → Path D → (Path D → Expanded D) → Expanded D
  move_element w seg step p k =
      loading d image p w (source_value d image.align seg p.state) (λ v.
      storing d image p w (target_value p.state) v (λ q. k (on_state (moved_both d image.align step) q)))

  abbrev pub compare_element : Width → Seg → D → Path D → (Path D → Expanded D) → Expanded D
  compare_element w seg step p k =
      loading d image p w (source_value d image.align seg p.state) (λ a.
      loading d image p w (target_value p.state) (λ b. k (on_state (λ s. moved_both d image.align step (compared d image.align w a b s)) p)))

  abbrev pub store_element : Width → D → Path D → (Path D → Expanded D) → Expanded D
  store_element w step p k =
      storing d image p w (target_value p.state) (part d image.align w EAX p.state) (λ q. k (on_state (moved d image.align EDI step) q))

  abbrev pub load_element : Width → Seg → D → Path D → (Path D → Expanded D) → Expanded D
  load_element w seg step p k =
      loading d image p w (source_value d image.align seg p.state) (λ v.
      k (on_state (λ s. moved d image.align ESI step (with_part d image.align w EAX v s)) p))

  abbrev pub scan_element : Width → D → Path D → (Path D → Expanded D) → Expanded D
  scan_element w step p k =
      loading d image p w (target_value p.state) (λ b.
      k (on_state (λ s. moved d image.align EDI step (compared d image.align w (part d image.align w EAX s) b s)) p))

  -- one element, at the step that DF gives
  abbrev pub element : StringKind → Width → Seg → Path D → (Path D → Expanded D) → Expanded D
  element Move w seg p k = move_element w seg (step_by d w p.state.flags.direction) p k
  element Compare w seg p k = compare_element w seg (step_by d w p.state.flags.direction) p k
  element Store w seg p k = store_element w (step_by d w p.state.flags.direction) p k
  element Load w seg p k = load_element w seg (step_by d w p.state.flags.direction) p k
  element Scan w seg p k = scan_element w (step_by d w p.state.flags.direction) p k

  -- one more repetition is done: ECX counts down, and the instruction is done again unless ECX is 0 or ZF ends it
  abbrev pub counted : Repeat → ℕ → ℕ → Path D → Expanded D
  counted repeat next here p =
      counting_down d image p (λ count q. branched (either (is_zero d image.align count) (ends_by repeat q.state.flags)) next here q)

  -- where ECX is 0 nothing changes, and else one operation is done; where that is unknown, in this order
  abbrev pub repeated : Repeat → StringKind → Width → Seg → ℕ → ℕ → Path D → Expanded D
  repeated repeat kind w seg next here p =
      either_way (is_zero d image.align (register_value ECX p.state)) (lands next p)
      (element kind w seg p (counted repeat next here))

  abbrev pub string : StringKind → Width → Seg → Repeat → ℕ → ℕ → Path D → Expanded D
  string kind w seg Once next here p = element kind w seg p (λ q. lands next q)
  string kind w seg repeat next here p = repeated repeat kind w seg next here p

-- String operations, once and repeated (manual, volume 2: CMPS, LODS, MOVS, REP, SCAS, STOS).
use Rattle.std.specs.Prelude.{ℕ, ◌-◌, ◌^◌, Bool, false, not, ◌==◌, ◌||◌, if◌then◌else◌}
use Rattle.bit_words.specs.declared.width.Width.{Width}
use Rattle.bit_words.specs.declared.op.Op.TheVariants.{Sub}
use Rattle.bit_words.specs.Width.{bytes_of}
use Rattle.bit_words.specs.Operators.{apply_op}
use Rattle.memory_map.specs.declared.choice.Choice.{Choice}
use Rattle.memory_map.specs.State.{MachineState, Flags}
use Rattle.memory_map.specs.declared.registers.TheConstants.{EAX, ECX, ESI, EDI}
use Rattle.x86_syntax.specs.declared.instr.Seg.{Seg}
use Rattle.x86_syntax.specs.declared.instr.Repeat.{Repeat}
use Rattle.x86_syntax.specs.declared.instr.Repeat.TheVariants.{Once, Repe, Repne}
use Rattle.x86_semantics.specs.declared.flag_rule.FlagRule.TheVariants.{Difference}
use Rattle.x86_semantics.specs.declared.operation.StringKind.{StringKind}
use Rattle.x86_semantics.specs.declared.operation.StringKind.TheVariants.{Move, Compare, Store, Load, Scan}
use Rattle.x86_semantics.specs.FlagRules.{flags_after}
use Rattle.x86_semantics.specs.Registers.{register, with_register, part, with_part}
use Rattle.x86_semantics.specs.Operands.{Ended, Next, at_address, with_flags, segment_base, loading, storing}
use Rattle.x86_semantics.specs.Moves.{above}
use Rattle.x86_semantics.specs.Flow.{counting_down}

-- how far ESI and EDI move: by the width, up where DF is clear and else down
abbrev pub step_of : Width → Flags → ℕ
step_of w f = if f.direction then 2 ^ 32 - bytes_of w else bytes_of w

-- a register moved by a step
abbrev pub moved : ℕ → ℕ → MachineState → MachineState
moved r step m = with_register r (above (register r m) step) m

-- where the element at ESI is: its segment may be another
abbrev pub source_address : Seg → MachineState → ℕ
source_address seg m = above (register ESI m) (segment_base seg m)

abbrev pub compared : Width → ℕ → ℕ → Choice → MachineState → MachineState
compared w a b choice m = with_flags (flags_after Difference w a b (apply_op Sub w a b) choice m.flags) m

-- one element, at a step; CMPS reads the one at ESI first
abbrev pub element : StringKind → Width → Seg → ℕ → Choice → MachineState → (MachineState → Ended) → Ended
element Move w seg step choice m k =
    loading m w (source_address seg m) (λ v. storing m w (register EDI m) v (λ n. k (moved EDI step (moved ESI step n))))
element Compare w seg step choice m k =
    loading m w (source_address seg m) (λ a. loading m w (register EDI m) (λ b. k (moved EDI step (moved ESI step (compared w a b choice m)))))
element Store w seg step choice m k =
    storing m w (register EDI m) (part w EAX m) (λ n. k (moved EDI step n))
element Load w seg step choice m k =
    loading m w (source_address seg m) (λ v. k (moved ESI step (with_part w EAX v m)))
element Scan w seg step choice m k =
    loading m w (register EDI m) (λ b. k (moved EDI step (compared w (part w EAX m) b choice m)))

-- whether a repetition ends by ZF
abbrev pub ends_by : Repeat → Flags → Bool
ends_by Repe f = not f.zero
ends_by Repne f = f.zero
ends_by _ f = false

-- one more repetition is done: ECX counts down, and the instruction is done again unless ECX is 0 or ZF ends it
abbrev pub counted : Repeat → ℕ → ℕ → MachineState → Ended
counted repeat next here m =
    counting_down m (λ count p. Next (at_address (if (count == 0) || ends_by repeat p.flags then next else here) p))

abbrev pub repeated : Repeat → StringKind → Width → Seg → ℕ → Choice → MachineState → Ended
repeated repeat kind w seg next choice m =
    if register ECX m == 0 then Next (at_address next m)
    else element kind w seg (step_of w m.flags) choice m (counted repeat next m.eip)

abbrev pub string : StringKind → Width → Seg → Repeat → ℕ → Choice → MachineState → Ended
string kind w seg Once next choice m = element kind w seg (step_of w m.flags) choice m (λ n. Next (at_address next n))
string kind w seg repeat next choice m = repeated repeat kind w seg next choice m

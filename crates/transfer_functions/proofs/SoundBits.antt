-- Single flags and the status byte: their expansion stands for what they do.
use Rattle.std.proofs.Common.{◌≡◌, ℕ, ◌+◌, ◌*◌, ◌<◌, ◌^◌, Bool, true, false, ◌&&◌, cond, List, Option, Some, None, refl, sym, ◌∙◌, ap, subst, arith}
use Rattle.std.proofs.lemmas.Bool.{and_parts}
use Rattle.address_regions.specs.Places.{Places}
use Rattle.bit_words.specs.declared.width.Width.TheVariants.{B8}
use Rattle.bit_words.specs.Operators.{one_if}
use Rattle.domain_laws.specs.Laws.{Values, IsLawful}
use Rattle.memory_map.specs.Image.{Image}
use Rattle.memory_map.specs.State.{MachineState, Flags}
use Rattle.partitioned_memory.specs.declared.fact.Counted.{Counted}
use Rattle.x86_semantics.specs.declared.flag_rule.FlagRule.TheVariants.{Status}
use Rattle.x86_semantics.specs.declared.operation.FlagChange.{FlagChange}
use Rattle.x86_semantics.specs.declared.operation.FlagChange.TheVariants.{FlipCarry, ClearCarry, SetCarry, ClearDirection, SetDirection}
use Rattle.x86_semantics.specs.Bits.{change_flag as change_flag_of, load_status as load_status_of, status_byte, store_status as store_status_of}
use Rattle.x86_semantics.specs.FlagRules.{ruled}
use Rattle.x86_semantics.specs.Operands.{with_flags as with_flags_of}
use Rattle.x86_semantics.specs.Registers.{part as part_of}
use Rattle.x86_semantics.specs.declared.parts.TheConstants.{AH}
use Rattle.abstract_state.specs.declared.note.Note.{Note}
use Rattle.abstract_state.specs.declared.note.Note.TheVariants as notes
use Rattle.abstract_state.specs.declared.truth.Truth.{Truth}
use Rattle.abstract_state.specs.declared.truth.Truth.TheVariants.{Yes, No, Unknown}
use Rattle.abstract_state.specs.declared.flags.Truths.{Truths}
use Rattle.abstract_state.specs.Describes.{NoteStands}
use Rattle.abstract_state.specs.Expanding.{Path}
use Rattle.abstract_state.specs.Flags.{FlagsStand}
use Rattle.abstract_state.specs.Truth.{StandsFor}
use Rattle.abstract_state.proofs.Bridge.{any_known, number_known}
use Rattle.abstract_state.proofs.Logic.{opposite_stands}
use Rattle.transfer_functions.specs.Bits.{change_flag, flags_set, has_status, is_known, is_yes, load_status, status_value, store_status}
use Rattle.transfer_functions.specs.Flags.{ruled_truths}
use Rattle.transfer_functions.specs.Values.{part}
use Rattle.transfer_functions.proofs.FlagsSound.{status_stands}
use Rattle.transfer_functions.proofs.Steps.{S, H, E, lands_ends, noted_holds, part_stands, with_flags_holds, with_part_holds}

-- ---- one flag

with_carry : (t : Truths) (f : Flags) (u : Truth) (c : Bool) → StandsFor u c → FlagsStand t f → FlagsStand (record t { carry = u }) (record f { carry = c })
with_carry t f u c s h = record { carry = s; parity = h.parity; adjust = h.adjust; zero = h.zero; sign = h.sign; overflow = h.overflow; direction = h.direction }

with_direction : (t : Truths) (f : Flags) (u : Truth) (c : Bool) → StandsFor u c → FlagsStand t f → FlagsStand (record t { direction = u }) (record f { direction = c })
with_direction t f u c s h = record { carry = h.carry; parity = h.parity; adjust = h.adjust; zero = h.zero; sign = h.sign; overflow = h.overflow; direction = s }

-- a note speaks of no direction
direction_note : (note : Option Note) (p : Places) (m : MachineState) (c : Bool) → NoteStands note p m → NoteStands note p (with_flags_of (record (m.flags) { direction = c }) m)
direction_note None p m c h = tt
direction_note (Some (notes.Register r n)) p m c h = record { carry = h.carry; parity = h.parity; zero = h.zero; sign = h.sign; overflow = h.overflow }
direction_note (Some (notes.Word o n)) p m c h = record { carry = h.carry; parity = h.parity; zero = h.zero; sign = h.sign; overflow = h.overflow }

-- ---- the status byte

one_if_small : (b : Bool) → one_if b < 2
one_if_small true = omega arith
one_if_small false = omega arith

pub status_fits : (f : Flags) → status_byte f < 2 ^ 8
status_fits f =
    let c = one_if_small f.carry in let p = one_if_small f.parity in let a = one_if_small f.adjust in let z = one_if_small f.zero in let s = one_if_small f.sign in
    sum_fits (one_if f.carry) (one_if f.parity) (one_if f.adjust) (one_if f.zero) (one_if f.sign) c p a z s
  where
    sum_fits : (c p a z s : ℕ) → c < 2 → p < 2 → a < 2 → z < 2 → s < 2 → 2 + c + 4 * p + 16 * a + 64 * z + 128 * s < 256
    sum_fits c p a z s hc hp ha hz hs = omega arith

-- a flag that is known is as it is known
known_is : (t : Truth) (b : Bool) → is_known t ≡ true → StandsFor t b → is_yes t ≡ b
known_is Yes b e h = sym h
known_is No b e h = sym h
known_is Unknown b e h = cc

status_is : (t : Truths) (f : Flags) → has_status t ≡ true → FlagsStand t f → status_byte (flags_set t) ≡ status_byte f
status_is t f e h =
    let four = and_parts (is_known t.carry && is_known t.parity && is_known t.adjust && is_known t.zero) (is_known t.sign) e in
    let three = and_parts (is_known t.carry && is_known t.parity && is_known t.adjust) (is_known t.zero) four.0 in
    let two = and_parts (is_known t.carry && is_known t.parity) (is_known t.adjust) three.0 in
    let one = and_parts (is_known t.carry) (is_known t.parity) two.0 in
    let carry = known_is t.carry f.carry one.0 h.carry in
    let parity = known_is t.parity f.parity one.1 h.parity in
    let adjust = known_is t.adjust f.adjust two.1 h.adjust in
    let zero = known_is t.zero f.zero three.1 h.zero in
    let sign = known_is t.sign f.sign four.1 h.sign in
    ap (λ b. 2 + one_if b + 4 * one_if (is_yes t.parity) + 16 * one_if (is_yes t.adjust) + 64 * one_if (is_yes t.zero) + 128 * one_if (is_yes t.sign)) carry
    ∙ ap (λ b. 2 + one_if f.carry + 4 * one_if b + 16 * one_if (is_yes t.adjust) + 64 * one_if (is_yes t.zero) + 128 * one_if (is_yes t.sign)) parity
    ∙ ap (λ b. 2 + one_if f.carry + 4 * one_if f.parity + 16 * one_if b + 64 * one_if (is_yes t.zero) + 128 * one_if (is_yes t.sign)) adjust
    ∙ ap (λ b. 2 + one_if f.carry + 4 * one_if f.parity + 16 * one_if f.adjust + 64 * one_if b + 128 * one_if (is_yes t.sign)) zero
    ∙ ap (λ b. 2 + one_if f.carry + 4 * one_if f.parity + 16 * one_if f.adjust + 64 * one_if f.zero + 128 * one_if b) sign

module _ {D : Type 0} (d : Values D) (l : IsLawful d) (image : Image) (p : Places) (blocks : List Counted) where
  pub change_flag_ends : (change : FlagChange) (next : ℕ) (q : Path D) (m : MachineState) → next < 2 ^ 32 → H d l image p blocks q m
      → E d l image p blocks (change_flag change next q) (change_flag_of change next m)
  change_flag_ends FlipCarry next q m less h =
      lands_ends d l image p blocks next _ _ less (with_flags_holds d l image p blocks _ _ q m
      (with_carry q.state.flags m.flags _ _ (opposite_stands _ _ h.describes.flags.carry) h.describes.flags) h)
  change_flag_ends ClearCarry next q m less h =
      lands_ends d l image p blocks next _ _ less (with_flags_holds d l image p blocks _ _ q m (with_carry q.state.flags m.flags No false refl h.describes.flags) h)
  change_flag_ends SetCarry next q m less h =
      lands_ends d l image p blocks next _ _ less (with_flags_holds d l image p blocks _ _ q m (with_carry q.state.flags m.flags Yes true refl h.describes.flags) h)
  change_flag_ends ClearDirection next q m less h =
      lands_ends d l image p blocks next _ _ less (noted_holds d l image p blocks _ q.state.note _ q m
      (with_direction q.state.flags m.flags No false refl h.describes.flags) h.well.note (direction_note q.state.note p m false h.describes.note) h)
  change_flag_ends SetDirection next q m less h =
      lands_ends d l image p blocks next _ _ less (noted_holds d l image p blocks _ q.state.note _ q m
      (with_direction q.state.flags m.flags Yes true refl h.describes.flags) h.well.note (direction_note q.state.note p m true h.describes.note) h)

  byte_stands : (t : Truths) (q : Path D) (m : MachineState) → FlagsStand t m.flags → H d l image p blocks q m → S d l image p blocks B8 (status_value d t) (status_byte m.flags)
  byte_stands t q m flags h =
      elim (has_status t) as (λ b. has_status t ≡ b → S d l image p blocks B8 (cond b (d.number (status_byte (flags_set t))) d.any) (status_byte m.flags)) [
        | true ↦ λ e.
            subst (S d l image p blocks B8 (d.number (status_byte (flags_set t)))) (status_is t m.flags e flags)
            (number_known d l image p blocks B8 (status_byte (flags_set t)) q m h (status_fits (flags_set t)))
        | false ↦ λ e. any_known d l image p blocks B8 (status_byte m.flags) q m h (status_fits m.flags)
      ] refl

  -- LAHF
  pub load_status_ends : (next : ℕ) (q : Path D) (m : MachineState) → next < 2 ^ 32 → H d l image p blocks q m → E d l image p blocks (load_status d image next q) (load_status_of next m)
  load_status_ends next q m less h =
      lands_ends d l image p blocks next _ _ less
      (with_part_holds d l image p blocks B8 AH _ _ q m (byte_stands q.state.flags q m h.describes.flags h) h)

  -- SAHF
  status_flags_stand : (q : Path D) (m : MachineState) → H d l image p blocks q m
      → FlagsStand (ruled_truths d image.align Status B8 (part d image.align B8 AH q.state) (d.number 0) (d.number 0) q.state.flags) (ruled Status B8 (part_of B8 AH m) 0 0 m.flags)
  status_flags_stand q m h =
      let fits = h.describes.fits in
      let own = part_stands d l image p blocks B8 AH q m h in
      let P : ℕ → Type 0 = λ k. FlagsStand (ruled_truths d k Status B8 (part d image.align B8 AH q.state) (d.number 0) (d.number 0) q.state.flags) (ruled Status B8 (part_of B8 AH m) 0 0 m.flags) in
      subst P fits.align (status_stands d l p fits.valid B8 _ _ _ (part_of B8 AH m) 0 0 q.state.flags m.flags own.stands h.describes.flags)

  pub store_status_ends : (next : ℕ) (q : Path D) (m : MachineState) → next < 2 ^ 32 → H d l image p blocks q m → E d l image p blocks (store_status d image next q) (store_status_of next m)
  store_status_ends next q m less h =
      lands_ends d l image p blocks next _ _ less (with_flags_holds d l image p blocks _ _ q m (status_flags_stand q m h) h)

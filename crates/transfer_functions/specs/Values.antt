-- Values of registers, of addresses and of operands: what `x86_semantics` reads and writes as numbers, read and written as values.
use Rattle.std.specs.Prelude.{ℕ, ◌%◌, ◌==◌, if◌then◌else◌, ⊤, List, Option, None, Some, pos}
use Rattle.std.specs.Int.{cast_unsigned, w32}
use Rattle.bit_words.specs.declared.width.Width.{Width}
use Rattle.bit_words.specs.declared.width.Width.TheVariants.{B8, B16, B32}
use Rattle.bit_words.specs.declared.op.Op.TheVariants as ops
use Rattle.bit_words.specs.Width.{cut}
use Rattle.memory_map.specs.Image.{Image}
use Rattle.memory_map.specs.Registers.{register}
use Rattle.address_regions.specs.declared.region.Region.TheVariants as regions
use Rattle.domain_laws.specs.Laws.{Values}
use Rattle.partitioned_memory.specs.declared.fact.Counted.{Counted}
use Rattle.partitioned_memory.specs.Well.{MayHold}
use Rattle.x86_syntax.specs.declared.instr.Seg.{Seg}
use Rattle.x86_syntax.specs.declared.instr.Seg.TheVariants.{Plain, Fs, Gs}
use Rattle.x86_syntax.specs.declared.instr.Address.{Address}
use Rattle.x86_syntax.specs.declared.instr.Operand.{Operand}
use Rattle.x86_syntax.specs.declared.instr.Operand.TheVariants.{Register, Number, Memory, Offset}
use Rattle.x86_semantics.specs.Registers.{byte_part, put_byte_part}
use Rattle.abstract_state.specs.declared.truth.Truth.{Truth}
use Rattle.abstract_state.specs.declared.truth.Truth.TheVariants.{Yes, No, Unknown}
use Rattle.abstract_state.specs.Truth.{truth_of_number}
use Rattle.abstract_state.specs.State.{Known, with_register_value}
use Rattle.abstract_state.specs.declared.stored.Stored.TheVariants.{Done}
use Rattle.abstract_state.specs.Expanding.{Expanded, Path, Written, ended, joined, lands}
use Rattle.abstract_state.specs.Accessing.{StoredPath, after_load, after_store, loaded, stored}

-- ---- how a path goes on

-- the path with its state changed
abbrev pub on_state : {D : Type 0} → (Known D → Known D) → Path D → Path D
on_state change p = record { state = change p.state; writes = p.writes }

-- the first where it is so, the second where it is not, and both in this order where it is unknown
abbrev pub either_way : {D : Type 0} → Truth → Expanded D → Expanded D → Expanded D
either_way Yes x y = x
either_way No x y = y
either_way Unknown x y = joined x y

-- one target where it is so, the other where it is not, and both in this order where it is unknown
abbrev pub branched : {D : Type 0} → Truth → ℕ → ℕ → Path D → Expanded D
branched t taken past p = either_way t (lands taken p) (lands past p)

-- ---- registers of 32 bits

-- the register of a number modulo 8
abbrev pub register_value : {D : Type 0} → ℕ → Known D → D
register_value r s = register s.regs (r % 8)

-- the state with another value there
abbrev pub with_register : {D : Type 0} → ℕ → D → Known D → Known D
with_register r v s = with_register_value (r % 8) v s

-- ---- values

-- the logarithm of a scale
abbrev pub log_of_scale : ℕ → Option ℕ
log_of_scale scale = if scale == 1 then Some 0 else if scale == 2 then Some 1 else if scale == 4 then Some 2 else if scale == 8 then Some 3 else None

module _ {D : Type 0} (d : Values D) where
  -- 1 where it is so, 0 where it is not, and any where it is unknown
  abbrev pub value_of_truth : Truth → D
  value_of_truth Yes = d.number 1
  value_of_truth No = d.number 0
  value_of_truth Unknown = d.any

module _ {D : Type 0} (d : Values D) (align : ℕ) where
  -- a value some bytes above another, or below it
  abbrev pub above : D → D → D
  above a size = d.eval ops.Add B32 a size align

  abbrev pub below : D → D → D
  below a size = d.eval ops.Sub B32 a size align

  -- whether a value is 0
  abbrev pub is_zero : D → Truth
  is_zero v = truth_of_number (d.number_of (d.eval ops.Eq B32 v (d.number 0) align))

  -- ---- registers of a width

  abbrev pub part : Width → ℕ → Known D → D
  part B8 r s = d.eval (byte_part r) B32 (register_value (r % 4) s) (d.number 0) align
  part B16 r s = d.eval ops.Low16 B32 (register_value r s) (d.number 0) align
  part B32 r s = register_value r s

  -- the state with another value there; the other bits of the register stay
  abbrev pub with_part : Width → ℕ → D → Known D → Known D
  with_part B8 r v s = with_register (r % 4) (d.eval (put_byte_part r) B32 (register_value (r % 4) s) v align) s
  with_part B16 r v s = with_register r (d.eval ops.PutLow16 B32 (register_value r s) v align) s
  with_part B32 r v s = with_register r v s

  -- ---- addresses of memory; a part that is left out is the number 0

  abbrev pub base_value : Option ℕ → Known D → D
  base_value None s = d.number 0
  base_value (Some r) s = register_value r s

  -- a value times a scale of this logarithm; any where there is no such scale
  abbrev pub scaled_value : Option ℕ → D → D
  scaled_value None v = d.any
  scaled_value (Some log) v = d.eval ops.Shl B32 v (d.number log) align

  abbrev pub index_value : Option (ℕ × ℕ) → Known D → D
  index_value None s = d.number 0
  index_value (Some p) s = scaled_value (log_of_scale p.1) (register_value p.0 s)

  -- the offset in its segment: base + index * scale + displacement
  unfoldable pub offset_value : Address → Known D → D
  offset_value a s = above (above (base_value a.base s) (index_value a.index s)) (d.number (cut B32 a.disp))

  -- a place in a segment: the base of fs or gs is added
  abbrev pub in_segment : Seg → D → D
  in_segment Plain v = v
  in_segment Fs v = above (d.place regions.Fs (pos 0)) v
  in_segment Gs v = above (d.place regions.Gs (pos 0)) v

  abbrev pub address_value : Address → Known D → D
  address_value a s = in_segment a.seg (offset_value a s)

-- both of two values, where both are there
abbrev pub pair_of : {D : Type 0} → Option D → Option D → Option (D × D)
pair_of (Some a) (Some b) = Some (a, b)
pair_of (Some a) None = None
pair_of None b = None

-- what follows two values, where the path could read them
abbrev pub after_pair : {D : Type 0} → List Written → Option (D × D) → (D → D → Expanded D) → Expanded D
after_pair ws None k = ended ws
after_pair ws (Some both) k = k both.0 both.1

-- a value may be written to an operand: memory takes what fits its width, and a register any word
abbrev pub MayWrite : {D : Type 0} → Values D → List Counted → Operand → D → Type 0
MayWrite d blocks (Memory w a) v = MayHold d blocks w v
MayWrite d blocks (Register w r) v = MayHold d blocks B32 v
MayWrite d blocks (Number w n) v = ⊤
MayWrite d blocks (Offset o) v = ⊤

module _ {D : Type 0} (d : Values D) (image : Image) where
  -- an operand's value, where it can be read
  abbrev pub operand_value : Operand → Known D → Option D
  operand_value (Register w r) s = Some (part d image.align w r s)
  operand_value (Number w n) s = Some (d.number (cut w n))
  operand_value (Memory w a) s = loaded d image w (address_value d image.align a s) s
  operand_value (Offset o) s = Some (d.number (cast_unsigned w32 o))

  abbrev pub reading : Path D → Operand → (D → Expanded D) → Expanded D
  reading p o k = after_load d image p.writes (operand_value o p.state) k

  -- the path with an operand's value replaced, where it can be written; a number is no place
  abbrev pub operand_written : Operand → D → Path D → StoredPath D
  operand_written (Register w r) v p = (Done, on_state (with_part d image.align w r v) p)
  operand_written (Number w n) v p = (Done, p)
  operand_written (Memory w a) v p = stored d image w (address_value d image.align a p.state) v p
  operand_written (Offset o) v p = (Done, p)

  abbrev pub writing : Path D → Operand → D → (Path D → Expanded D) → Expanded D
  writing p o v k = after_store d image (operand_written o v p) k

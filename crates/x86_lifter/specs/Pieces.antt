-- The pieces of which lists of statements are made: the addresses of operands, and their values fetched and kept.
use Rattle.std.specs.Prelude.{ℕ, ◌%◌, List, [], ◌∷◌, ◌++◌, Option, None, Some}
use Rattle.std.specs.Int.{cast_unsigned, w32}
use Rattle.bit_words.specs.declared.width.Width.{Width}
use Rattle.bit_words.specs.declared.width.Width.TheVariants.{B8, B16, B32}
use Rattle.bit_words.specs.Width.{cut}
use Rattle.bit_words.specs.declared.op.Op.TheVariants.{Add, Mul, Low16, PutLow16}
use Rattle.x86_syntax.specs.declared.instr.Address.{Address}
use Rattle.x86_syntax.specs.declared.instr.Operand.{Operand}
use Rattle.x86_syntax.specs.declared.instr.Operand.TheVariants as operands
use Rattle.x86_semantics.specs.declared.flag_rule.FlagRule.{FlagRule}
use Rattle.x86_semantics.specs.Registers.{byte_part, put_byte_part}
use Rattle.x86_semantics.specs.FlagRules.{free_of}
use Rattle.statement_lang.specs.declared.stmt.Source.{Source}
use Rattle.statement_lang.specs.declared.stmt.Source.TheVariants.{Register, Temp, Number, Base}
use Rattle.statement_lang.specs.declared.stmt.Test.TheVariants.{Zero}
use Rattle.statement_lang.specs.declared.stmt.Stmt.{Stmt}
use Rattle.statement_lang.specs.declared.stmt.Stmt.TheVariants.{Put, Copy, SetFlags, Load, Store, FreeFlags, SkipUnless, Goto}

-- ---- addresses

abbrev pub base_source : Option ℕ → Source
base_source None = Number 0
base_source (Some r) = Register r

abbrev pub index_source : Option (ℕ × ℕ) → Source
index_source None = Number 0
index_source (Some p) = Register p.0

abbrev pub scale_of : Option (ℕ × ℕ) → ℕ
scale_of None = 0
scale_of (Some p) = p.1

-- an address into a temporary, where the index and the base come from these sources
abbrev pub address_from : ℕ → Source → Source → Address → List Stmt
address_from k index base a =
    Put (Temp k) Mul B32 index (Number (scale_of a.index))
    ∷ Put (Temp k) Add B32 (Temp k) base
    ∷ Put (Temp k) Add B32 (Temp k) (Number a.disp)
    ∷ Put (Temp k) Add B32 (Temp k) (Base a.seg)
    ∷ []

-- the address of an operand in memory into a temporary
abbrev pub placing : ℕ → Operand → List Stmt
placing k (operands.Memory w a) = address_from k (index_source a.index) (base_source a.base) a
placing k _ = []

-- the addresses of two operands into the temporaries 0 and 1
abbrev pub places : Operand → Operand → List Stmt
places first second = placing 0 first ++ placing 1 second

-- ---- values; the address of an operand in memory is in the temporary k

abbrev pub nothing : Stmt
nothing = SkipUnless (Zero (Number 0)) 0

-- an operand's value into a temporary
abbrev pub fetching : Operand → ℕ → ℕ → Stmt
fetching (operands.Register B8 r) k t = Put (Temp t) (byte_part r) B32 (Register (r % 4)) (Number 0)
fetching (operands.Register B16 r) k t = Put (Temp t) Low16 B32 (Register r) (Number 0)
fetching (operands.Register B32 r) k t = Copy (Temp t) (Register r)
fetching (operands.Number w n) k t = Copy (Temp t) (Number (cut w n))
fetching (operands.Memory w a) k t = Load (Temp t) w (Temp k)
fetching (operands.Offset o) k t = Copy (Temp t) (Number (cast_unsigned w32 o))

-- a temporary into an operand
abbrev pub keeping : Operand → ℕ → ℕ → Stmt
keeping (operands.Register B8 r) k t = Put (Register (r % 4)) (put_byte_part r) B32 (Register (r % 4)) (Temp t)
keeping (operands.Register B16 r) k t = Put (Register r) PutLow16 B32 (Register r) (Temp t)
keeping (operands.Register B32 r) k t = Copy (Register r) (Temp t)
keeping (operands.Number w n) k t = nothing
keeping (operands.Memory w a) k t = Store (Temp k) w (Temp t)
keeping (operands.Offset o) k t = nothing

-- a register's value into a temporary, and back
abbrev pub fetching_register : Width → ℕ → ℕ → Stmt
fetching_register w r t = fetching (operands.Register w r) 0 t

abbrev pub keeping_register : Width → ℕ → ℕ → Stmt
keeping_register w r t = keeping (operands.Register w r) 0 t

-- the flags of a rule by three temporaries, and the next instruction
abbrev pub ending : FlagRule → Width → ℕ → ℕ → ℕ → ℕ → List Stmt
ending rule w a b r next = SetFlags rule w (Temp a) (Temp b) (Temp r) ∷ FreeFlags (free_of rule) ∷ Goto (Number next) ∷ []

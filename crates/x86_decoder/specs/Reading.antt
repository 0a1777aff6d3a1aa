-- What an answer says of the bytes that are still to be read. `lang` is the set of strings that may follow, each with
-- the instruction that it completes, `bytes` are those that do follow, of the first 15, and `at` were read before.
use Rattle.std.specs.Prelude.{◌≡◌, ℕ, suc, ◌+◌, ◌<◌, ◌≤◌, ◌⊎◌, Bool, false, nat_le, if◌then◌else◌, List, ◌++◌, length, take, Option, Some, None, Result, Ok, Err, All}
use Rattle.x86_syntax.specs.declared.instr.Instr.{Instr}
use Rattle.x86_syntax.specs.declared.table.Map.{Map}
use Rattle.x86_syntax.specs.declared.table.Row.{Row}
use Rattle.x86_syntax.specs.declared.prefixes.Group.{Group}
use Rattle.x86_syntax.specs.declared.prefixes.Group.TheVariants.{Empty, Lock}
use Rattle.x86_syntax.specs.declared.prefixes.Prefixes.{Prefixes}
use Rattle.x86_syntax.specs.Opcodes.{row_of}
use Rattle.x86_syntax.specs.Spelling.{row_number_size}
use Rattle.x86_decoder.specs.declared.fault.DecodeFault.{DecodeFault}
use Rattle.x86_decoder.specs.declared.fault.DecodeFault.TheVariants.{NotListed, Truncated, TooLong}

-- the instruction is whole behind `size` more bytes
pub record Ends (lang : List ℕ → Option Instr) (bytes : List ℕ) (at : ℕ) (i : Instr) (n : ℕ) : Type 0 where
  pub size : ℕ
  pub total : n ≡ at + size
  pub within : size ≤ length bytes
  pub names : lang (take size bytes) ≡ Some i

-- some string of the set begins with these bytes and is longer, by bytes
pub record Begins (lang : List ℕ → Option Instr) (bytes : List ℕ) : Type 0 where
  pub rest : List ℕ
  pub are_bytes : All (λ b. b < 256) rest
  pub more : 0 < length rest
  pub names : Instr
  pub whole : lang (bytes ++ rest) ≡ Some names

-- the byte behind `size` more is the first with which none goes on
pub record Leaves (lang : List ℕ → Option Instr) (bytes : List ℕ) (at : ℕ) (index : ℕ) : Type 0 where
  pub size : ℕ
  pub total : index ≡ at + size
  pub within : size < length bytes
  pub before : Begins lang (take size bytes)
  pub none : (x : List ℕ) → lang (take (suc size) bytes ++ x) ≡ None

-- the bytes end, and more of them make at most 15
pub record Lacks (lang : List ℕ → Option Instr) (bytes : List ℕ) (at : ℕ) : Type 0 where
  pub begins : Begins lang bytes
  pub short : at + length bytes + length begins.rest ≤ 15

-- the bytes end, and all that goes on has more than 15
pub record Exceeds (lang : List ℕ → Option Instr) (bytes : List ℕ) (at : ℕ) : Type 0 where
  pub begins : Begins lang bytes
  pub long : (x : List ℕ) (i : Instr) → lang (bytes ++ x) ≡ Some i → 15 < at + length bytes + length x

abbrev pub Reads : (List ℕ → Option Instr) → List ℕ → ℕ → Result (Instr × ℕ) DecodeFault → Type 0
Reads lang bytes at (Ok p) = Ends lang bytes at p.0 p.1
Reads lang bytes at (Err (NotListed index)) = Leaves lang bytes at index
Reads lang bytes at (Err Truncated) = Lacks lang bytes at
Reads lang bytes at (Err TooLong) = Exceeds lang bytes at

-- the byte just read is the first with which none goes on
abbrev pub IsDead : (List ℕ → Option Instr) → ℕ → Result (Instr × ℕ) DecodeFault → Type 0
IsDead lang at (Err (NotListed index)) = (index + 1 ≡ at) × ((s : List ℕ) → lang s ≡ None)
IsDead lang at (Err Truncated) = ⊥
IsDead lang at (Err TooLong) = ⊥
IsDead lang at (Ok p) = ⊥

abbrev pub ReadsOrDead : (List ℕ → Option Instr) → List ℕ → ℕ → Result (Instr × ℕ) DecodeFault → Type 0
ReadsOrDead lang bytes at r = Reads lang bytes at r ⊎ IsDead lang at r

-- where the bytes end, the shortest string that goes on has `need` bytes in all
pub record Needs (lang : List ℕ → Option Instr) (bytes : List ℕ) (need : ℕ) : Type 0 where
  pub begins : Begins lang bytes
  pub size : length bytes + length begins.rest ≡ need
  pub least : (x : List ℕ) (i : Instr) → lang (bytes ++ x) ≡ Some i → need ≤ length bytes + length x

-- the fault where the shortest instruction that goes on has n bytes
abbrev pub fault_at : ℕ → DecodeFault
fault_at n = if nat_le n 15 then Truncated else TooLong

-- the least number of bytes behind the address in the rows of an opcode with a reg field below the limit
pub record IsLeastBelow (limit : ℕ) (p : Prefixes) (map : Map) (code : ℕ) (n : ℕ) : Type 0 where
  pub reg : ℕ
  pub small : reg < 8
  pub row : Row
  pub found : row_of p map code reg ≡ Some row
  pub size : row_number_size p row ≡ n
  pub least : (k : ℕ) (other : Row) → k < limit → row_of p map code k ≡ Some other → n ≤ row_number_size p other

-- how many bytes the shortest instruction has behind prefixes, and behind 0F
abbrev pub shortest_behind : Group → ℕ
shortest_behind Lock = 2
shortest_behind _ = 1

abbrev pub shortest_escaped : Group → Bool → ℕ
shortest_escaped Empty false = 1
shortest_escaped _ _ = 2

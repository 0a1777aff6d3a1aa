-- A stub file: what it states, and for what it is refused.
use Rattle.std.specs.Prelude.{◌≡◌, ℕ, ⊤, Bool, true, List, [], ◌∷◌, Option, Some, None, IsUtf8}
use Rattle.std.specs.Map.{lookup}
use Rattle.std.specs.Option.{option_map_or}
use Rattle.memory_map.specs.Alignment.{is_alignment}
use Rattle.toml.specs.Data.{Members, no_members, member, same_key}
use Rattle.toml.specs.Parse.{parse_document}
use Rattle.stub_file.specs.Document.{natural_at}
use Rattle.stub_file.specs.Faults.{HasFault, IsFaultless, stubs_in}
use Rattle.stub_file.specs.Stated.{IsStub}
use Rattle.stub_file.specs.declared.fault.StubFault.{StubFault}
use Rattle.stub_file.specs.declared.fault.StubFault.TheVariants.{NotToml, Memory}
use Rattle.stub_file.specs.declared.keys.Key.TheVariants as key
use Rattle.stub_file.specs.declared.stub.Stub.{Stub}

-- stubs with their names, in the order of the names, and the alignment of a stack
pub record StatedStubs : Type 0 where
  pub align : Option ℕ
  pub named : List (List ℕ × Stub)

abbrev pub no_stubs : StatedStubs
no_stubs = record { align = None; named = [] }

-- the stub of a name
abbrev pub stub_named : List ℕ → StatedStubs → Option Stub
stub_named name s = lookup (same_key name) s.named

-- one stub for each key of a table, in their order
abbrev pub AreStubs : Members → List (List ℕ × Stub) → Type 0
AreStubs no_members [] = ⊤
AreStubs no_members (e ∷ es) = ⊥
AreStubs (member name d t) [] = ⊥
AreStubs (member name d t) (e ∷ es) = (e.0 ≡ name) × IsStub d e.1 × AreStubs t es

-- what a document states
pub record IsStated (t : Members) (s : StatedStubs) : Type 0 where
  pub align : s.align ≡ natural_at key.StackAlign t
  pub named : AreStubs (stubs_in t) s.named

-- what is true of all stubs: the alignment is one of a stack, and each index is that of an argument
abbrev pub align_is_kept : Option ℕ → Bool
align_is_kept align = option_map_or is_alignment align true

-- the bytes are UTF-8 and a TOML 1.1 document, with this table at the top
abbrev pub IsDocument : List ℕ → Members → Type 0
IsDocument bytes t = IsUtf8 bytes × (parse_document bytes ≡ Some t)

-- want of memory may be told at any time
abbrev pub Refuses : List ℕ → StubFault → Type 0
Refuses bytes NotToml = (t : Members) → IsDocument bytes t → ⊥
Refuses bytes Memory = ⊤
Refuses bytes fault = (t : Members) × IsDocument bytes t × HasFault t fault

abbrev pub States : List ℕ → StatedStubs → Type 0
States bytes s = (t : Members) × IsDocument bytes t × IsFaultless t × IsStated t s

-- The listing of an image's instructions, version 1: lines of ASCII, each ended by one byte 0A.
use Rattle.std.specs.Prelude.{ℕ, zero, suc, ◌≡◌, ◌⊎◌, List, [], ◌∷◌, ◌++◌, length, take, Option, None, Some, codes, decimal}
use Rattle.memory_map.specs.Range.{code_run}
use Rattle.memory_map.specs.Image.{Image}
use Rattle.text_fields.specs.Hex.{hex8, hex_text}
use Rattle.text_fields.specs.Line.{newline, space}
use Rattle.x86_syntax.specs.declared.instr.Instr.{Instr}
use Rattle.x86_syntax.specs.Decodes.{Decodes, decoded}
use Rattle.x86_syntax.specs.Text.{instr_text, next_address}
use Rattle.x86_decoder.specs.declared.fault.DecodeFault.{DecodeFault}
use Rattle.x86_decoder.specs.declared.fault.DecodeFault.TheVariants.{NotListed, Truncated, TooLong}
use Rattle.x86_decoder.specs.Refusals.{Refused}

abbrev pub header_line : List ℕ
header_line = codes "jakstab-decode 1" ++ newline

-- how many instructions are listed
abbrev pub end_line : ℕ → List ℕ
end_line n = codes "end " ++ decimal n ++ newline

-- the image's executable bytes from an address on
abbrev pub code_from : Image → ℕ → List ℕ
code_from image at = code_run image.segments at

-- an instruction's address, its bytes and its text
unfoldable pub instruction_line : ℕ → List ℕ → Instr → List ℕ
instruction_line at bytes i = hex8 at ++ space ++ hex_text bytes ++ space ++ instr_text at i (length bytes) ++ newline

-- why none stands there; the number of `notlisted` is the index of the first byte with which no instruction goes on
abbrev pub fault_text : DecodeFault → List ℕ
fault_text (NotListed index) = codes " notlisted " ++ decimal index
fault_text TooLong = codes " toolong"
fault_text Truncated = codes " truncated"

unfoldable pub fault_line : ℕ → DecodeFault → List ℕ
fault_line at fault = hex8 at ++ fault_text fault ++ newline

-- the line of an address where an instruction stands, and the address after it
pub record Lists (image : Image) (at : ℕ) (line : List ℕ) (next : ℕ) : Type 0 where
  pub i : Instr
  pub size : ℕ
  pub decodes : Decodes (code_from image at) i size
  pub text : line ≡ instruction_line at (take size (code_from image at)) i
  pub after : next ≡ next_address at size

-- the line of an address where none stands
pub record ListsRefusal (image : Image) (at : ℕ) (line : List ℕ) : Type 0 where
  pub fault : DecodeFault
  pub none : decoded (code_from image at) ≡ None
  pub cause : Refused fault (code_from image at)
  pub text : line ≡ fault_line at fault

-- a line, and the lines from the next address on; n counts the instructions
pub record ListsOn (image : Image) (at : ℕ) (lines : List ℕ) (n : ℕ) (Others : ℕ → List ℕ → ℕ → Type 0) : Type 0 where
  pub line : List ℕ
  pub next : ℕ
  pub lists : Lists image at line next
  pub others : List ℕ
  pub more : ℕ
  pub follow : Others next others more
  pub whole : lines ≡ line ++ others
  pub counted : n ≡ suc more

-- the lines from an address on: of at most `count` instructions, each at the address after the last, and at the first
-- place where none stands of that place, and no more; n counts the instructions
unfoldable pub AreLines : Image → ℕ → ℕ → List ℕ → ℕ → Type 0
AreLines image zero at lines n = (lines ≡ []) × (n ≡ 0)
AreLines image (suc count) at lines n = ListsOn image at lines n (λ next others more. AreLines image count next others more) ⊎ (ListsRefusal image at lines × (n ≡ 0))

-- the listing of at most `count` instructions from an address on
pub record IsListing (image : Image) (at count : ℕ) (text : List ℕ) : Type 0 where
  pub lines : List ℕ
  pub n : ℕ
  pub are : AreLines image count at lines n
  pub whole : text ≡ header_line ++ lines ++ end_line n

-- the lines are appended
pub record AreAppended (image : Image) (count at : ℕ) (before after : List ℕ) (n : ℕ) : Type 0 where
  pub lines : List ℕ
  pub are : AreLines image count at lines n
  pub gained : after ≡ before ++ lines

-- the line of an address is appended; the next address is that after its instruction, where one stands there
abbrev pub IsLine : Image → ℕ → List ℕ → Option ℕ → Type 0
IsLine image at line None = ListsRefusal image at line
IsLine image at line (Some next) = Lists image at line next

pub record IsAppended (image : Image) (at : ℕ) (before after : List ℕ) (next : Option ℕ) : Type 0 where
  pub line : List ℕ
  pub is : IsLine image at line next
  pub gained : after ≡ before ++ line

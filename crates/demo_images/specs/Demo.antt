-- The demo image: blocks that each end in a jump through a table and a loop, and a last call of `exit`.
use Rattle.std.specs.Prelude.{ℕ, zero, suc, ◌+◌, ◌*◌, false, List, [], ◌∷◌, ◌++◌, replicate, codes}
use Rattle.demo_images.specs.LittleEndian.{words}
use Rattle.demo_images.specs.Elf.{CODE}
use Rattle.demo_images.specs.Tables.{TABLES}
use Rattle.demo_images.specs.Forms.{form_d}

-- mov eax, [esp + 4]; cmp eax, 2; ja the call; jmp through the table by eax
abbrev pub block_head : List ℕ
block_head = 0x8B ∷ 0x44 ∷ 0x24 ∷ 0x04 ∷ 0x83 ∷ 0xF8 ∷ 0x02 ∷ 0x77 ∷ 0x12 ∷ 0xFF ∷ 0x24 ∷ 0x85 ∷ []

-- at 16 a call of the loop and a jump; at 23 and 24 nop; a jump to the next instruction and one to the next block; at 29 a loop of three rounds and ret
abbrev pub block_body : List ℕ
block_body = 0xE8 ∷ 0x08 ∷ 0x00 ∷ 0x00 ∷ 0x00 ∷ 0xEB ∷ 0x04 ∷ 0x90 ∷ 0x90 ∷ 0xEB ∷ 0x00 ∷ 0xEB ∷ 0x23 ∷ 0xB9 ∷ 0x03 ∷ 0x00 ∷ 0x00 ∷ 0x00 ∷ 0x49 ∷ 0x75 ∷ 0xFD ∷ 0xC3 ∷ 0x90 ∷ 0x90 ∷ []

-- the block at an address: its code, with the table at 40, and hlt up to 64 bytes
unfoldable pub block : ℕ → List ℕ
block at = block_head ++ words ((at + 40) ∷ []) ++ block_body ++ words ((at + 16) ∷ (at + 23) ∷ (at + 24) ∷ []) ++ replicate 12 0xF4

-- the first n blocks
unfoldable pub blocks : ℕ → List ℕ
blocks zero = []
blocks (suc n) = blocks n ++ block (CODE + 64 * n)

-- a call through the first slot, and hlt
unfoldable pub last_call : List ℕ
last_call = (0xFF ∷ 0x15 ∷ []) ++ words (TABLES ∷ []) ++ 0xF4 ∷ []

-- the most blocks
abbrev pub MOST_BLOCKS : ℕ
MOST_BLOCKS = 2000

unfoldable pub demo_image : ℕ → List ℕ
demo_image n = form_d (blocks n ++ last_call) (record { name = codes "exit"; weak = false } ∷ [])

abbrev pub demo_stubs : List ℕ
demo_stubs = codes "[stub.exit]\nargs = 4\nreply = \"never\"\n"

-- The decoder's view of what operands are made of.
use Rattle.std.specs.Prelude.{ℕ, Option}
use Rattle.x86_syntax.specs.declared.instr.Place.{Place}
use Rattle.x86_syntax.specs.declared.instr.Place.TheVariants as places
use Rattle.x86_syntax.specs.declared.instr.Seg.TheVariants.{Plain}
use Rattle.x86_syntax.specs.Spelling.{Parts, base_register, displacement}
use Rattle.x86_decoder.specs.declared.operands.Pieces.{Pieces}

abbrev pub parts_of : Pieces → Parts
parts_of pieces = record { code = pieces.code; modrm = pieces.modrm; place = pieces.place; number = pieces.number }

-- the memory at a base, an index and a displacement of this number
abbrev pub address_place : ℕ → ℕ → Option (ℕ × ℕ) → ℕ → Place
address_place mode base index n = places.Memory (record { seg = Plain; base = base_register mode base; index = index; disp = displacement mode n })

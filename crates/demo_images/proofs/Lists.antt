-- One more piece at the end of a list of pieces, and one symbol less before the rest.
use Rattle.std.proofs.Common.{◌≡◌, ℕ, suc, ◌+◌, ◌*◌, ◌<◌, List, ◌++◌, drop, length, get_or, arith, ap}
use Rattle.std.proofs.lemmas.List.{drop_more}
use Rattle.demo_images.specs.Elf.{CODE}
use Rattle.demo_images.specs.Demo.{block, blocks}
use Rattle.demo_images.specs.Imported.{Imported}
use Rattle.demo_images.specs.Tables.{relocation, relocations, symbol, symbols_from}

pub blocks_more : (n : ℕ) → blocks (n + 1) ≡ blocks n ++ block (CODE + 64 * n)
unfolding blocks
blocks_more n = let e : n + 1 ≡ suc n = omega arith in ap blocks e

pub relocations_more : (n : ℕ) → relocations (n + 1) ≡ relocations n ++ relocation n
unfolding relocations
relocations_more n = let e : n + 1 ≡ suc n = omega arith in ap relocations e

pub symbols_more : (at i : ℕ) (imports : List Imported) (d : Imported) → i < length imports →
    symbols_from at (drop i imports) ≡ symbol at (get_or imports i d) ++ symbols_from (at + length (get_or imports i d).name + 1) (drop (i + 1) imports)
unfolding symbols_from
symbols_more at i imports d lt = ap (symbols_from at) (drop_more imports i d lt)

use Rattle.std.proofs.Common.{◌≡◌, ◌+◌, ◌*◌, ◌≤◌, ◌++◌, drop, length}
use Rattle.demo_images.specs.Tables.{symbols, symbols_from}
use Rattle.demo_images.proofs.import_tables.push_symbols.Given as goal

abbrev pub invariant-loop-import : goal.invariant-loop-import
invariant-loop-import l =
    (l.out.items ++ symbols_from l.at (drop l.import-index l.imports) ≡ l.fn.out.items ++ symbols l.imports)
    × (length l.out.items ≡ length l.fn.out.items + 16 + 16 * l.import-index)
    × (l.at ≤ 1 + 4097 * l.import-index)

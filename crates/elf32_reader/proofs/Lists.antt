-- Lists that grow at their end.
use Rattle.std.proofs.Common.{ℕ, ◌≡◌, ◌+◌, List, [], ◌∷◌, ◌++◌, map, arith}
use Rattle.std.specs.List.{range_with_len}
use Rattle.std.proofs.lemmas.List.FromFn.{map-range_with_len_more}
use Rattle.elf32_reader.specs.Headers.{header_at}

pub headers_more : (file : List ℕ) (i : ℕ) → map (header_at file) (range_with_len 0 (i + 1)) ≡ map (header_at file) (range_with_len 0 i) ++ header_at file i ∷ []
headers_more file i = map-range_with_len_more (header_at file) 0 i i (omega arith)

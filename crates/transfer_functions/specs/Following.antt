-- What follows an access of an instruction, as the code names it.
use Rattle.std.specs.Prelude.{ℕ}
use Rattle.memory_map.specs.Image.{Image}
use Rattle.domain_laws.specs.Laws.{Values}
use Rattle.abstract_state.specs.Expanding.{Expanded, Path, lands}
use Rattle.transfer_functions.specs.declared.after.After.{After}
use Rattle.transfer_functions.specs.declared.after.After.TheVariants.{Next, Target, Count}
use Rattle.transfer_functions.specs.Flow.{landing}
use Rattle.transfer_functions.specs.Strings.{counted}

module _ {D : Type 0} (d : Values D) (image : Image) where
  -- the next instruction, a target, or one more repetition of the instruction here
  abbrev pub followed : After → ℕ → ℕ → Path D → Expanded D
  followed Next next here q = lands next q
  followed (Target a) next here q = landing a q
  followed (Count repeat) next here q = counted d image repeat next here q

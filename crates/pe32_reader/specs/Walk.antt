-- The walk over the imports as the code has it.
use Rattle.std.specs.Prelude.{◌≡◌, ◌⊎◌, ◌≤◌, length, Result, Ok, Err, MatchResult}
use Rattle.pe_headers.specs.declared.fault.PeFault.{PeFault}
use Rattle.pe_headers.specs.declared.fault.PeFault.TheVariants.{Memory}
use Rattle.pe32_reader.specs.Imports.{Imported}
use Rattle.pe32_reader.specs.declared.imports.ImportTable.{ImportTable}

-- what is imported so far
abbrev pub seen_by : ImportTable → Imported
seen_by table = record { names = table.names; slots = table.slots.items }

-- each name has a slot, and there are no more slots than an image may have
pub record HasSlots (table : ImportTable) : Type 0 where
  pub each : length table.names ≤ length table.slots.items
  pub few : length table.slots.items ≤ 65535

-- a part of the walk came to what it should: with Ok to what is imported then, or to its fault; want of memory is free
abbrev pub ComesTo : {T : Type 0} → Result Imported PeFault → Imported → Result T PeFault → Type 0
ComesTo walked now result = MatchResult result (λ _. walked ≡ Ok now) (λ e. (e ≡ Memory) ⊎ (walked ≡ Err e))

-- What the code tells of one statement.
use Rattle.memory_map.specs.State.{MachineState}
use Rattle.x86_semantics.specs.Operands.{Ended, Faulted}
use Rattle.statement_lang.specs.declared.running.Flow.{Flow}
use Rattle.statement_lang.specs.declared.running.Flow.TheVariants.{On, Failed}
use Rattle.statement_lang.specs.Run.{Temps, Going}

-- what follows a statement: the next ones, or a fault
abbrev pub flowing : Flow → MachineState → Temps → Going → Ended
flowing (On skip) m t go = go m t skip
flowing (Failed kind) m t go = Faulted kind m

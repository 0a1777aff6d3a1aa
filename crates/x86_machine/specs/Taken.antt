-- What a call answers that makes one step of a machine.
use Rattle.std.specs.Prelude.{◌≡◌}
use Rattle.memory_map.specs.State.{MachineState}
use Rattle.x86_machine.specs.declared.outcome.Outcome.{Outcome}
use Rattle.x86_machine.specs.declared.outcome.Outcome.TheVariants.{BadChoice, Exited, Faulted, Memory, NoStub, NotListed, Stepped}
use Rattle.x86_machine.specs.StepBy.{StepEnd, bad_choice, exited, faulted, no_stub, not_listed, stepped}

-- a step from m that ends as P says has this outcome and leaves n: the next state where there is one, and else m; want of memory may be told at any time
abbrev pub Answers : (StepEnd → Type 0) → MachineState → Outcome → MachineState → Type 0
Answers P m Stepped n = P (stepped n)
Answers P m (Faulted kind) n = P (faulted kind) × (n ≡ m)
Answers P m NotListed n = P not_listed × (n ≡ m)
Answers P m NoStub n = P no_stub × (n ≡ m)
Answers P m Exited n = P exited × (n ≡ m)
Answers P m (BadChoice kind) n = P (bad_choice kind) × (n ≡ m)
Answers P m Memory n = n ≡ m

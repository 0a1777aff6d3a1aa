-- The machine of an image with stubs for its imports: its steps under all choices, and the edge that each step is.
use Rattle.std.specs.Prelude.{ℕ, List, [], Option, None, Some, take}
use Rattle.memory_map.specs.declared.choice.Choice.{Choice}
use Rattle.memory_map.specs.Image.{Image, name_at}
use Rattle.memory_map.specs.State.{MachineState}
use Rattle.stub_file.specs.Stubs.{StatedStubs}
use Rattle.x86_syntax.specs.declared.instr.Instr.{Instr}
use Rattle.x86_syntax.specs.Decodes.{decoded}
use Rattle.flow_log.specs.declared.edge.Edge.{Edge}
use Rattle.flow_log.specs.declared.edge.Label.{Label}
use Rattle.flow_log.specs.declared.edge.Label.TheVariants.{Code, Import}
use Rattle.flow_log.specs.Run.{Machine}
use Rattle.x86_machine.specs.StepBy.{StepBy, stepped, fetched}

-- the first bytes of these, as many as the instruction there has
abbrev pub instr_bytes : Option (Instr × ℕ) → List ℕ → List ℕ
instr_bytes (Some p) bytes = take p.1 bytes
instr_bytes None bytes = []

abbrev pub label_by : Option (List ℕ) → List ℕ → Label
label_by (Some name) bytes = Import name
label_by None bytes = Code (record { items = instr_bytes (decoded bytes) bytes })

-- the bytes of the instruction at EIP as the machine fetches them, or the import's name
unfoldable pub label_at : Image → MachineState → Label
label_at image m = label_by (name_at image m.eip) (fetched m)

unfoldable pub edge_of : Image → MachineState → MachineState → Edge
edge_of image m next = record { from = m.eip; to = next.eip; label = label_at image m }

-- some choice leads from the first state to the second
abbrev pub Steps : Image → StatedStubs → MachineState → MachineState → Type 0
Steps image stubs m next = (choice : Choice) × StepBy image stubs choice m (stepped next)

abbrev pub machine_of : Image → StatedStubs → Machine MachineState Edge
machine_of image stubs = record { place = λ m. m.eip; Steps = Steps image stubs; edge = edge_of image }

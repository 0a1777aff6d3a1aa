-- The number of each status, and the line that tells it.
use Rattle.std.specs.Prelude.{ℕ, List, [], ◌++◌, codes, decimal}
use Rattle.text_fields.specs.Line.{newline}
use Rattle.jakstab_core.specs.declared.status.Input.{Input}
use Rattle.jakstab_core.specs.declared.status.Input.TheVariants as inputs
use Rattle.jakstab_core.specs.declared.status.Status.{Status}
use Rattle.jakstab_core.specs.declared.status.Status.TheVariants.{Done, VerdictNo, Usage, ReadFault, TooLong, WriteFault, ImageRefused, StubsRefused, Memory, InputRefused}

abbrev pub status_number : Status → ℕ
status_number Done = 0
status_number VerdictNo = 1
status_number Usage = 2
status_number (ReadFault input) = 3
status_number (TooLong input) = 3
status_number WriteFault = 4
status_number (ImageRefused n) = 5
status_number (StubsRefused n) = 6
status_number Memory = 7
status_number (InputRefused line kind) = 8

abbrev pub input_text : Input → List ℕ
input_text inputs.Image = codes "image"
input_text inputs.Stubs = codes "stubs"
input_text inputs.First = codes "first"
input_text inputs.Second = codes "second"

unfoldable pub status_line : Status → List ℕ
status_line Done = []
status_line VerdictNo = []
status_line Usage = codes "jakstab: usage" ++ newline
status_line (ReadFault input) = codes "jakstab: cannot read " ++ input_text input ++ newline
status_line (TooLong input) = codes "jakstab: too long " ++ input_text input ++ newline
status_line WriteFault = codes "jakstab: cannot write" ++ newline
status_line (ImageRefused n) = codes "jakstab: image refused " ++ decimal n ++ newline
status_line (StubsRefused n) = codes "jakstab: stubs refused " ++ decimal n ++ newline
status_line Memory = codes "jakstab: no memory" ++ newline
status_line (InputRefused line kind) = codes "jakstab: input refused " ++ decimal line ++ codes " " ++ decimal kind ++ newline

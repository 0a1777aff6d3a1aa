-- The start file and the run record, version 1: lines of ASCII, each ended by one byte 0A, with single spaces between their fields.
use Rattle.std.specs.Prelude.{ℕ, ◌+◌, ◌/◌, ◌%◌, Bool, List, [], ◌∷◌, ◌++◌, codes, flat_map, if◌then◌else◌}
use Rattle.memory_map.specs.declared.choice.Choice.{Choice}
use Rattle.memory_map.specs.declared.choice.Fill.{Fill}
use Rattle.text_fields.specs.Hex.{hex2, hex8, hex_text}
use Rattle.text_fields.specs.Line.{newline, space}
use Rattle.x86_machine.specs.declared.start_file.StartFile.{StartFile}
use Rattle.run_replayer.specs.declared.record.EndWord.{EndWord}
use Rattle.run_replayer.specs.declared.record.EndWord.TheVariants as ends
use Rattle.run_replayer.specs.declared.record.RunStep.{RunStep}
use Rattle.run_replayer.specs.declared.record.RunRecord.{RunRecord}
use Rattle.text_fields.specs.Fields.{bool_text}

-- ---- fields

-- a word behind a space
abbrev pub word_field : ℕ → List ℕ
word_field n = space ++ hex8 n

abbrev pub word_fields : List ℕ → List ℕ
word_fields words = flat_map word_field words

-- a bit as a digit
abbrev pub bit_digit : ℕ → ℕ
bit_digit bit = 48 + bit

-- CF PF AF ZF SF OF, which are the bits from bit 0 on, a digit each
unfoldable pub flag_digits : ℕ → List ℕ
flag_digits flags =
    bit_digit (flags % 2) ∷ bit_digit (flags / 2 % 2) ∷ bit_digit (flags / 4 % 2)
    ∷ bit_digit (flags / 8 % 2) ∷ bit_digit (flags / 16 % 2) ∷ bit_digit (flags / 32 % 2) ∷ []

-- FLAGS EAX ECX EDX BASE FAILS, each behind a space
unfoldable pub choice_fields : Choice → List ℕ
choice_fields c = space ++ hex2 c.flags ++ word_fields (c.eax ∷ c.ecx ∷ c.edx ∷ c.base ∷ []) ++ space ++ bool_text c.fails

-- ---- lines

unfoldable pub fill_line : Fill → List ℕ
fill_line f = codes "fill" ++ word_field f.at ++ space ++ hex_text f.bytes ++ newline

-- EAX ECX EDX EBX ESP EBP ESI EDI
abbrev pub regs_line : List ℕ → List ℕ
regs_line regs = codes "regs" ++ word_fields regs ++ newline

abbrev pub flags_line : ℕ → List ℕ
flags_line flags = codes "flags" ++ space ++ flag_digits flags ++ newline

abbrev pub bases_line : ℕ → ℕ → List ℕ
bases_line fs gs = codes "bases" ++ word_field fs ++ word_field gs ++ newline

-- the lines that both texts have behind their first line
unfoldable pub start_lines : StartFile → List ℕ
start_lines s = regs_line s.regs ++ flags_line s.flags ++ bases_line s.fs s.gs ++ flat_map fill_line s.fill

-- a choice with its fills
unfoldable pub choice_lines : Choice → List ℕ
choice_lines c = codes "choice" ++ choice_fields c ++ newline ++ flat_map fill_line c.fill

-- a step with the fills of its choice
unfoldable pub step_lines : RunStep → List ℕ
step_lines s = codes "step" ++ word_field s.from ++ word_field s.to ++ choice_fields s.choice ++ newline ++ flat_map fill_line s.choice.fill

abbrev pub end_word : EndWord → List ℕ
end_word ends.Steps = codes "steps"
end_word ends.Exited = codes "exited"
end_word ends.Faulted = codes "faulted"
end_word ends.NotListed = codes "notlisted"
end_word ends.NoStub = codes "nostub"
end_word ends.BadChoice = codes "badchoice"

-- ---- texts

abbrev pub start_header : List ℕ
start_header = codes "jakstab-start 1"

abbrev pub record_header : List ℕ
record_header = codes "jakstab-record 1"

unfoldable pub start_text : StartFile → List ℕ
start_text s = start_header ++ newline ++ start_lines s ++ flat_map choice_lines s.choices ++ codes "end" ++ newline

unfoldable pub record_text : RunRecord → List ℕ
record_text r = record_header ++ newline ++ start_lines r.start ++ flat_map step_lines r.steps ++ codes "end " ++ end_word r.end ++ newline

-- The line that says a verdict: ASCII, ended by one byte 0A.
use Rattle.std.specs.Prelude.{ℕ, Bool, true, false, List, ◌++◌, codes, decimal}
use Rattle.text_fields.specs.Line.{newline, space}
use Rattle.run_replayer.specs.Texts.{word_field}
use Rattle.run_replayer.specs.declared.verdict.RunKind.{RunKind}
use Rattle.run_replayer.specs.declared.verdict.RunKind.TheVariants as kinds
use Rattle.run_replayer.specs.declared.verdict.Verdict.{Verdict}
use Rattle.run_replayer.specs.declared.verdict.Verdict.TheVariants.{Inside, ReachedOpen, NotARun, NotAnEdge}

-- whether a record is refuted: it is no run, or leaves the automaton by a step that is no edge
abbrev pub is_no : Verdict → Bool
is_no (Inside n) = false
is_no (ReachedOpen n at) = false
is_no (NotARun n kind) = true
is_no (NotAnEdge n from to) = true

abbrev pub kind_word : RunKind → List ℕ
kind_word kinds.From = codes "from"
kind_word kinds.Exited = codes "exited"
kind_word kinds.Faulted = codes "faulted"
kind_word kinds.NotListed = codes "notlisted"
kind_word kinds.NoStub = codes "nostub"
kind_word kinds.BadChoice = codes "badchoice"
kind_word kinds.To = codes "to"

-- a number in decimal behind a space
abbrev pub number_field : ℕ → List ℕ
number_field n = space ++ decimal n

abbrev pub verdict_line : Verdict → List ℕ
verdict_line (Inside n) = codes "inside" ++ number_field n ++ newline
verdict_line (ReachedOpen n at) = codes "open" ++ number_field n ++ word_field at ++ newline
verdict_line (NotARun n kind) = codes "notarun" ++ number_field n ++ space ++ kind_word kind ++ newline
verdict_line (NotAnEdge n from to) = codes "notanedge" ++ number_field n ++ word_field from ++ word_field to ++ newline

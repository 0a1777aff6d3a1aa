-- The fields of the lines of start files and run records: what each form of field writes, and lines by the forms of their fields.
use Rattle.std.specs.Prelude.{ℕ, ◌+◌, ◌*◌, ◌==◌, Bool, List, [], ◌∷◌, length, find, Option, None, Some, option_and_then, option_map, nat_le, ◌&&◌, if◌then◌else◌}
use Rattle.std.specs.Str.{bytes_eq}
use Rattle.memory_map.specs.declared.choice.Choice.{Choice}
use Rattle.memory_map.specs.declared.choice.Fill.{Fill}
use Rattle.text_fields.specs.Fields.{bool_of, byte_of, no_more, then_field, word_of}
use Rattle.text_fields.specs.Hex.{hex_bytes}
use Rattle.run_replayer.specs.declared.record.EndWord.{EndWord}
use Rattle.run_replayer.specs.declared.record.EndWord.TheVariants as ends
use Rattle.run_replayer.specs.declared.record.RunStep.{RunStep}
use Rattle.run_replayer.specs.Texts.{end_word}

-- ---- forms of fields

-- 0 or 1
abbrev pub bit_of : ℕ → Option ℕ
bit_of c = if c == 48 then Some 0 else if c == 49 then Some 1 else None

-- the number whose bits are these digits, bit 0 first
abbrev pub bits_of : List ℕ → Option ℕ
bits_of [] = Some 0
bits_of (c ∷ cs) = option_and_then (λ bit. option_map (λ others. bit + 2 * others) (bits_of cs)) (bit_of c)

-- six flags
abbrev pub flags_of : List ℕ → Option ℕ
flags_of field = if length field == 6 then bits_of field else None

-- a fill has 1 to 1,024 bytes
abbrev pub fits_fill : List ℕ → Bool
fits_fill bytes = nat_le 1 (length bytes) && nat_le (length bytes) 1024

abbrev pub fill_bytes_of : List ℕ → Option (List ℕ)
fill_bytes_of field = option_and_then (λ bytes. if fits_fill bytes then Some bytes else None) (hex_bytes field)

abbrev pub end_words : List EndWord
end_words = ends.Steps ∷ ends.Exited ∷ ends.Faulted ∷ ends.NotListed ∷ ends.NoStub ∷ ends.BadChoice ∷ []

abbrev pub end_of : List ℕ → Option EndWord
end_of field = find (λ end. bytes_eq (end_word end) field) end_words

-- ---- lines

-- EAX ECX EDX EBX ESP EBP ESI EDI
unfoldable pub regs_of : List (List ℕ) → Option (List ℕ)
regs_of fs =
    then_field word_of fs (λ eax fs. then_field word_of fs (λ ecx fs. then_field word_of fs (λ edx fs. then_field word_of fs (λ ebx fs.
    then_field word_of fs (λ esp fs. then_field word_of fs (λ ebp fs. then_field word_of fs (λ esi fs. then_field word_of fs (λ edi fs.
    no_more (eax ∷ ecx ∷ edx ∷ ebx ∷ esp ∷ ebp ∷ esi ∷ edi ∷ []) fs))))))))

unfoldable pub six_flags_of : List (List ℕ) → Option ℕ
six_flags_of fs = then_field flags_of fs (λ flags fs. no_more flags fs)

-- FS GS
unfoldable pub bases_of : List (List ℕ) → Option (ℕ × ℕ)
bases_of fs = then_field word_of fs (λ base fs. then_field word_of fs (λ other fs. no_more (base, other) fs))

-- an address and bytes
unfoldable pub fill_of : List (List ℕ) → Option Fill
fill_of fs = then_field word_of fs (λ at fs. then_field fill_bytes_of fs (λ bytes fs. no_more (record { at = at; bytes = bytes }) fs))

-- FLAGS EAX ECX EDX BASE FAILS, without fills
unfoldable pub choice_of : List (List ℕ) → Option Choice
choice_of fs =
    then_field byte_of fs (λ flags fs. then_field word_of fs (λ eax fs. then_field word_of fs (λ ecx fs. then_field word_of fs (λ edx fs.
    then_field word_of fs (λ base fs. then_field bool_of fs (λ fails fs.
    no_more (record { flags = flags; eax = eax; ecx = ecx; edx = edx; base = base; fails = fails; fill = [] }) fs))))))

-- FROM TO and a choice
unfoldable pub step_of : List (List ℕ) → Option RunStep
step_of fs =
    then_field word_of fs (λ from fs. then_field word_of fs (λ to fs. option_map (λ choice. record { from = from; to = to; choice = choice }) (choice_of fs)))

-- the word of a record's end
unfoldable pub ending_of : List (List ℕ) → Option EndWord
ending_of fs = then_field end_of fs (λ end fs. no_more end fs)

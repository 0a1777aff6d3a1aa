-- The fields of the lines of tables: what each form of field writes, and lines by the forms of their fields.
use Rattle.std.specs.Prelude.{ℕ, ◌==◌, ◌^◌, ◌&&◌, Bool, true, false, List, [], ◌∷◌, length, codes, Option, None, Some, option_and_then, option_map, nat_le, nat_lt, ℤ, pos, if◌then◌else◌}
use Rattle.std.specs.Str.{bytes_eq}
use Rattle.text_fields.specs.Decimal.{decimal_below}
use Rattle.text_fields.specs.Fields.{bool_of, no_more, then_field, word_of}
use Rattle.text_fields.specs.Lines.{cut_at}
use Rattle.bit_words.specs.declared.width.Width.{Width}
use Rattle.bit_words.specs.declared.width.Width.TheVariants.{B8, B16, B32}
use Rattle.bit_words.specs.Width.{signed_of}
use Rattle.address_regions.specs.declared.region.Region.{Region}
use Rattle.address_regions.specs.declared.region.Region.TheVariants.{Stack, Fs, Gs, Block}
use Rattle.address_regions.specs.Extents.{has_one_base, has_room}
use Rattle.bounded_values.specs.declared.value.Bounded.{Bounded}
use Rattle.bounded_values.specs.declared.value.Bounded.TheVariants.{Number, Exact, Inside, Any}
use Rattle.partitioned_memory.specs.declared.area.Area.{Area}
use Rattle.partitioned_memory.specs.declared.area.Area.TheVariants.{Image, In}
use Rattle.partitioned_memory.specs.declared.fact.Fact.{Fact}
use Rattle.partitioned_memory.specs.declared.fact.Dirty.{Dirty}
use Rattle.partitioned_memory.specs.declared.fact.Counted.{Counted}
use Rattle.abstract_state.specs.declared.truth.Truth.{Truth}
use Rattle.abstract_state.specs.declared.truth.Truth.TheVariants.{Yes, No, Unknown}
use Rattle.abstract_state.specs.declared.note.Note.{Note}
use Rattle.abstract_state.specs.declared.note.Note.TheVariants.{Register, Word}

-- ---- regions and areas

abbrev pub window_of : List ℕ → Option Region
window_of field =
    if bytes_eq field (codes "stack") then Some Stack
    else if bytes_eq field (codes "fs") then Some Fs
    else if bytes_eq field (codes "gs") then Some Gs
    else None

abbrev pub block_by : List ℕ → List ℕ → List ℕ → Option Region
block_by site size zeroed =
    option_and_then (λ site. option_and_then (λ size. option_map (λ zeroed. Block site size zeroed) (bool_of zeroed)) (word_of size)) (word_of site)

-- the site and the rest behind it
abbrev pub block_of : List ℕ → Option Region
block_of text =
    option_and_then (λ (first : List ℕ × List ℕ). option_and_then (λ (second : List ℕ × List ℕ). block_by first.0 second.0 second.1) (cut_at 46 first.1)) (cut_at 46 text)

-- `b`, and behind a dot the rest
abbrev pub region_by : List ℕ → Option (List ℕ × List ℕ) → Option Region
region_by field None = window_of field
region_by field (Some p) = if bytes_eq p.0 (codes "b") then block_of p.1 else None

unfoldable pub region_of : List ℕ → Option Region
region_of field = region_by field (cut_at 46 field)

unfoldable pub area_of : List ℕ → Option Area
area_of field = if bytes_eq field (codes "image") then Some Image else option_map (λ r. In r) (region_of field)

-- the offset that a word writes: of the stack, fs and gs one in two's complement
abbrev pub low_in : Area → ℕ → ℤ
low_in Image n = pos n
low_in (In r) n = if has_one_base r then signed_of B32 n else pos n

-- ---- values

abbrev pub plain_value : List ℕ → Option Bounded
plain_value field = if bytes_eq field (codes "a") then Some Any else option_map (λ n. Number n) (word_of field)

abbrev pub place_by : List ℕ → List ℕ → Option Bounded
place_by region offset = option_and_then (λ r. option_map (λ n. Exact r (signed_of B32 n)) (word_of offset)) (region_of region)

-- a region and an offset
abbrev pub place_of : List ℕ → Option Bounded
place_of text = option_and_then (λ (p : List ℕ × List ℕ). place_by p.0 p.1) (cut_at 58 text)

abbrev pub inside_in : Region → Option Bounded
inside_in r = if has_room r then Some (Inside r) else None

-- a region with room for four bytes and of at most 67,108,864
abbrev pub inside_of : List ℕ → Option Bounded
inside_of text = option_and_then inside_in (region_of text)

-- a letter, and behind a colon the rest
abbrev pub value_by : List ℕ → Option (List ℕ × List ℕ) → Option Bounded
value_by field None = plain_value field
value_by field (Some p) =
    if bytes_eq p.0 (codes "e") then place_of p.1
    else if bytes_eq p.0 (codes "i") then inside_of p.1
    else None

unfoldable pub value_of : List ℕ → Option Bounded
value_of field = value_by field (cut_at 58 field)

-- ---- other forms

abbrev pub truth_of : ℕ → Option Truth
truth_of c = if c == 49 then Some Yes else if c == 48 then Some No else if c == 63 then Some Unknown else None

abbrev pub truths_by : List ℕ → Option (List Truth)
truths_by [] = Some []
truths_by (c ∷ cs) = option_and_then (λ t. option_map (λ ts. t ∷ ts) (truths_by cs)) (truth_of c)

-- seven of them
abbrev pub flags_of : List ℕ → Option (List Truth)
flags_of field = if length field == 7 then truths_by field else None

abbrev pub k_of : List ℕ → Option ℕ
k_of field = option_and_then (λ n. if nat_le 1 n && nat_le n 1024 then Some n else None) (decimal_below (2 ^ 64) field)

abbrev pub register_of : List ℕ → Option ℕ
register_of field = option_and_then (λ n. if nat_lt n 8 then Some n else None) (decimal_below (2 ^ 64) field)

abbrev pub width_of : List ℕ → Option Width
width_of field =
    if bytes_eq field (codes "1") then Some B8
    else if bytes_eq field (codes "2") then Some B16
    else if bytes_eq field (codes "4") then Some B32
    else None

abbrev pub many_of : List ℕ → Option Bool
many_of field = if bytes_eq field (codes "one") then Some false else if bytes_eq field (codes "many") then Some true else None

-- ---- lines behind their first words

unfoldable pub k_fields : List (List ℕ) → Option ℕ
k_fields fs = then_field k_of fs (λ k fs. no_more k fs)

-- EAX ECX EDX EBX ESP EBP ESI EDI
unfoldable pub regs_fields : List (List ℕ) → Option (List Bounded)
regs_fields fs =
    then_field value_of fs (λ eax fs. then_field value_of fs (λ ecx fs. then_field value_of fs (λ edx fs. then_field value_of fs (λ ebx fs.
    then_field value_of fs (λ esp fs. then_field value_of fs (λ ebp fs. then_field value_of fs (λ esi fs. then_field value_of fs (λ edi fs.
    no_more (eax ∷ ecx ∷ edx ∷ ebx ∷ esp ∷ ebp ∷ esi ∷ edi ∷ []) fs))))))))

unfoldable pub flags_fields : List (List ℕ) → Option (List Truth)
flags_fields fs = then_field flags_of fs (λ truths fs. no_more truths fs)

unfoldable pub register_note : List (List ℕ) → Option Note
register_note fs = then_field register_of fs (λ r fs. then_field word_of fs (λ c fs. no_more (Register r c) fs))

unfoldable pub word_note : List (List ℕ) → Option Note
word_note fs = then_field word_of fs (λ o fs. then_field word_of fs (λ c fs. no_more (Word (signed_of B32 o) c) fs))

-- of a register or of a word of the stack
unfoldable pub note_fields : List (List ℕ) → Option Note
note_fields [] = None
note_fields (kind ∷ fs) =
    if bytes_eq kind (codes "reg") then register_note fs
    else if bytes_eq kind (codes "word") then word_note fs
    else None

-- AREA LOW WIDTH VALUE
unfoldable pub fact_fields : List (List ℕ) → Option (Fact Bounded)
fact_fields fs =
    then_field area_of fs (λ area fs. then_field word_of fs (λ low fs. then_field width_of fs (λ w fs. then_field value_of fs (λ v fs.
    no_more (record { area = area; low = low_in area low; w = w; value = v }) fs))))

-- AREA LOW SIZE
unfoldable pub dirty_fields : List (List ℕ) → Option Dirty
dirty_fields fs =
    then_field area_of fs (λ area fs. then_field word_of fs (λ low fs. then_field word_of fs (λ size fs.
    no_more (record { area = area; low = low_in area low; size = pos size }) fs)))

-- REGION one or many
unfoldable pub block_fields : List (List ℕ) → Option Counted
block_fields fs = then_field region_of fs (λ region fs. then_field many_of fs (λ many fs. no_more (record { region = region; many = many }) fs))

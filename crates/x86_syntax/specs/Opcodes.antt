-- Which row of the opcode table an opcode has.
use Rattle.std.specs.Prelude.{ℕ, ◌-◌, ◌/◌, ◌%◌, ◌&&◌, ◌||◌, ◌==◌, not, Bool, true, false, nat_le, nat_lt, Option, find}
use Rattle.x86_syntax.specs.declared.prefixes.Group.{Group}
use Rattle.x86_syntax.specs.declared.prefixes.Group.TheVariants.{Empty, Lock, Repne, Rep}
use Rattle.x86_syntax.specs.declared.prefixes.Prefixes.{Prefixes}
use Rattle.x86_syntax.specs.declared.table.Map.{Map}
use Rattle.x86_syntax.specs.declared.table.Map.TheVariants.{One, Two, Three}
use Rattle.x86_syntax.specs.declared.table.Repeats.{Repeats}
use Rattle.x86_syntax.specs.declared.table.Repeats.TheVariants as repeats
use Rattle.x86_syntax.specs.declared.table.Form.{Form}
use Rattle.x86_syntax.specs.declared.table.Form.TheVariants.{Eb, Ev, Ew, Gb, Gv, M, N, Uv}
use Rattle.x86_syntax.specs.declared.table.Row.{Row}
use Rattle.x86_syntax.specs.declared.table.TheConstants.{ROWS}

abbrev pub is_map : Map → Map → Bool
is_map One One = true
is_map Two Two = true
is_map Three Three = true
is_map _ _ = false

-- whether the row has this opcode
abbrev pub has_code : Map → ℕ → Row → Bool
has_code map code row = is_map row.map map && nat_le row.first code && not (row.step == 0)
    && ((code - row.first) % row.step == 0) && nat_lt ((code - row.first) / row.step) row.count

abbrev pub has_reg : ℕ → Row → Bool
has_reg reg row = nat_le row.low reg && nat_le reg row.high

-- whether a ModRM byte gives this operand
abbrev pub is_of_modrm : Form → Bool
is_of_modrm Eb = true
is_of_modrm Ev = true
is_of_modrm Ew = true
is_of_modrm Gb = true
is_of_modrm Gv = true
is_of_modrm M = true
is_of_modrm N = true
is_of_modrm Uv = true
is_of_modrm _ = false

-- whether a ModRM byte follows the opcodes of the row
abbrev pub takes_modrm : Row → Bool
takes_modrm row = is_of_modrm row.forms.first || is_of_modrm row.forms.second

-- what F3 and F2 may stand before
abbrev pub is_needed : Repeats → Bool
is_needed repeats.Needed = true
is_needed _ = false

abbrev pub is_never : Repeats → Bool
is_never repeats.Never = true
is_never _ = false

abbrev pub is_both : Repeats → Bool
is_both repeats.RepeRepne = true
is_both _ = false

-- whether the byte of the first prefix group is listed
abbrev pub group_listed : Group → Row → Bool
group_listed Empty row = not (is_needed row.repeats)
group_listed Lock row = row.lock
group_listed Repne row = is_both row.repeats
group_listed Rep row = not (is_never row.repeats)

-- whether the row is listed behind these prefixes, LOCK apart from the demand that its operand be memory
abbrev pub is_listed : Prefixes → Row → Bool
is_listed p row = (not p.size || row.size) && group_listed p.group row

abbrev pub has_opcode : Prefixes → Map → ℕ → Row → Bool
has_opcode p map code row = is_listed p row && has_code map code row

abbrev pub has_all : Prefixes → Map → ℕ → ℕ → Row → Bool
has_all p map code reg row = is_listed p row && has_reg reg row && has_code map code row

-- the row of an opcode with a reg field, behind these prefixes
unfoldable pub row_of : Prefixes → Map → ℕ → ℕ → Option Row
row_of p map code reg = find (has_all p map code reg) ROWS

-- the first row of an opcode, behind these prefixes
unfoldable pub opcode_row : Prefixes → Map → ℕ → Option Row
opcode_row p map code = find (has_opcode p map code) ROWS

-- the prefixes behind which an opcode behind 0F, and the one behind 0F 1E, is listed
abbrev pub may_escape : Group → Bool → Bool
may_escape Empty size = true
may_escape Lock size = true
may_escape Rep false = true
may_escape _ _ = false

abbrev pub may_escape_twice : Group → Bool → Bool
may_escape_twice Rep false = true
may_escape_twice _ _ = false

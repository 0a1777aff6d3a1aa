-- The conditions of Jcc, SETcc and CMOVcc (manual, volume 1, appendix B).
use Rattle.std.specs.Prelude.{◌/◌, ◌%◌, ◌==◌, Bool, false, ◌||◌, List, [], ◌∷◌, slice_get, unwrap_or}
use Rattle.std.specs.Bool.{xor}
use Rattle.x86_syntax.specs.declared.instr.Cond.{Cond}
use Rattle.memory_map.specs.State.{Flags}

-- the tests of the even conditions: O, B, E, BE, S, P, L, LE
abbrev pub tests : Flags → List Bool
tests f = f.overflow ∷ f.carry ∷ f.zero ∷ (f.carry || f.zero) ∷ f.sign ∷ f.parity ∷ xor f.sign f.overflow ∷ (f.zero || xor f.sign f.overflow) ∷ []

-- whether the flags meet a condition: each odd one negates the even one before it
unfoldable pub is_met : Cond → Flags → Bool
is_met c f = xor (c.0 % 2 == 1) (unwrap_or (slice_get (tests f) (c.0 / 2)) false)

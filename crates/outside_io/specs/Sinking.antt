-- A sink in memory: which writes fail, what the others take, and what the sink is afterwards.
use Rattle.std.specs.Prelude.{ℕ, ◌-◌, min, Bool, ◌&&◌, ◌||◌, nat_lt, nat_le, if◌then◌else◌, List, ◌++◌, take, length}
use Rattle.outside_io.specs.Outside.{is_listed, next_count}

pub record Sinking : Type 0 where
  pub held : List ℕ
  pub room : ℕ
  pub per_write : ℕ
  pub fail_at : List ℕ
  pub calls : ℕ
  pub faults : ℕ

-- the call's number is listed, or the piece is not empty and the room is full
abbrev pub fails : Sinking → List ℕ → Bool
fails s piece = is_listed s.fail_at (next_count s.calls) || (nat_lt 0 (length piece) && nat_le s.room (length s.held))

-- how many bytes any other write takes
abbrev pub taken : Sinking → List ℕ → ℕ
taken s piece = min (min (length piece) s.per_write) (s.room - length s.held)

abbrev pub after_write : Sinking → List ℕ → Sinking
after_write s piece =
    if fails s piece
    then record s { calls = next_count s.calls; faults = next_count s.faults }
    else record s { calls = next_count s.calls; held = s.held ++ take (taken s piece) piece }

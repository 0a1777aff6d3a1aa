-- What a shelf holds, what a sink gains, and when a count rose.
use Rattle.std.specs.Prelude.{◌≡◌, ℕ, ◌+◌, ◌-◌, ◌^◌, ◌<◌, ◌≤◌, ◌⊎◌, min, Bool, List, [], ◌++◌, take, length, ◌==◌, Option, Some, None, option_map, unwrap_or, ⊤, Vec, String}
use Rattle.std.specs.List.{list_any}
use Rattle.std.specs.Global.{Global}
use Rattle.std.specs.BTreeMap.{BTreeMap, get_by_text}

-- the content under each name, or None where no such name is held
abbrev pub Contents : Type 0
Contents = List ℕ → Option (List ℕ)

-- a fact of what is held under a name, where the shelf tells that
abbrev pub WhereHeld : Option Contents → List ℕ → (Option (List ℕ) → Type 0) → Type 0
WhereHeld None name Fact = ⊤
WhereHeld (Some held) name Fact = Fact (held name)

-- the whole content under a name, and not longer than the limit
abbrev pub IsWhole : Option Contents → List ℕ → ℕ → List ℕ → Type 0
IsWhole told name limit content = (length content ≤ limit) × WhereHeld told name (λ held. held ≡ Some content)

-- a count is greater than at the call's start, or stands at its end
abbrev pub Rose : ℕ → ℕ → Type 0
Rose old new = (old < new) ⊎ (new ≡ 2 ^ 64 - 1)

-- a sink gained these bytes, where it tells; whether it tells does not change
abbrev pub Gained : Option (List ℕ) → Option (List ℕ) → List ℕ → Type 0
Gained None new bytes = new ≡ None
Gained (Some old) new bytes = new ≡ Some (old ++ bytes)

-- a sink gained some first bytes of these
abbrev pub GainedPrefix : Option (List ℕ) → Option (List ℕ) → List ℕ → Type 0
GainedPrefix old new bytes = (n : ℕ) × Gained old new (take n bytes)

-- a count after one more, which stays at 2 ^ 64 - 1 once there
abbrev pub next_count : ℕ → ℕ
next_count n = min (n + 1) (2 ^ 64 - 1)

-- a number is in the list
abbrev pub is_listed : List ℕ → ℕ → Bool
is_listed numbers n = list_any (λ m. m == n) numbers

-- the contents of a map from names to contents
abbrev pub held_in : BTreeMap (String Global) (Vec ℕ Global) → Contents
held_in files name = option_map (λ content. content.items) (get_by_text files name)

-- the same where each other name has the empty content
abbrev pub surely_held : BTreeMap (String Global) (Vec ℕ Global) → Contents
surely_held files name = Some (unwrap_or (held_in files name) [])

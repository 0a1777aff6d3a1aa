-- A name that an image imports.
use Rattle.std.specs.Prelude.{ℕ, ◌≤◌, Bool, List, length}
use Rattle.demo_images.specs.declared.import.Import.TheInside.{Inside}

pub record Imported : Type 0 where
  pub name : List ℕ
  -- whether its symbol is weak
  pub weak : Bool

abbrev pub imported : Inside → Imported
imported import = record { name = import.name.now; weak = import.weak }

abbrev pub HasShortName : Inside → Type 0
HasShortName import = length import.name.now ≤ 4096

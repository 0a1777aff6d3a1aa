-- When a read refuses.
use Rattle.std.specs.Prelude.{◌≡◌, ℕ, ◌+◌, ◌<◌, List, length, Option, IsSomeAnd, ⊤}
use Rattle.outside_io.specs.Outside.{Contents, WhereHeld, Rose}
use Rattle.outside_io.specs.declared.shelf.ShelfFault.{ShelfFault}
use Rattle.outside_io.specs.declared.shelf.ShelfFault.TheVariants.{Failed, TooLong, Memory}

-- the cause of each fault of a read: what the shelf tells, the count of faults before and after, the name and the limit
abbrev pub IsReadRefused : Option Contents → ℕ → ℕ → List ℕ → ℕ → ShelfFault → Type 0
IsReadRefused told before after name limit Failed = Rose before after
IsReadRefused told before after name limit (TooLong seen) =
    (seen ≡ limit + 1) × WhereHeld told name (λ held. IsSomeAnd held (λ content. limit < length content))
IsReadRefused told before after name limit Memory = ⊤

-- why a content is not copied
abbrev pub Exceeds : List ℕ → ℕ → ShelfFault → Type 0
Exceeds content limit Failed = ⊥
Exceeds content limit (TooLong seen) = (seen ≡ limit + 1) × (limit < length content)
Exceeds content limit Memory = ⊤

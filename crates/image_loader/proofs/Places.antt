-- The places of imports.
use Rattle.std.proofs.Common.{ℕ, zero, suc, ◌≡◌, ◌≢◌, ◌+◌, ◌-◌, ◌*◌, ◌/◌, ◌%◌, ◌<◌, ◌≤◌, List, [], ◌∷◌, Option, None, Some, cond, refl, ap, ◌∙◌, arith}
use Rattle.std.specs.Prelude.{slice_get, find, ◌==◌}
use Rattle.std.specs.List.{enumerate_from}
use Rattle.std.specs.Option.{option_map}
use Rattle.std.proofs.lemmas.Bool.{eq-eqb, ne_eqb}
use Rattle.memory_map.specs.declared.import_name.ImportName.{ImportName}
use Rattle.memory_map.specs.Image.{Image, EXIT_PLACE, name_at, place_of}

-- the name at an address, where the names of a list are numbered from i on
abbrev name_numbered_from : List ImportName → ℕ → ℕ → Option (List ℕ)
name_numbered_from names i a = option_map (λ (p : ℕ × ImportName). p.1.name) (find (λ (p : ℕ × ImportName). a == place_of p.0) (enumerate_from i names))

first : (n : ImportName) (names : List ImportName) (i a : ℕ) → a ≡ place_of i → name_numbered_from (n ∷ names) i a ≡ Some n.name
first n names i a at =
    ap (λ b. option_map (λ (p : ℕ × ImportName). p.1.name) (cond b (Some (i, n)) (find (λ (p : ℕ × ImportName). a == place_of p.0) (enumerate_from (i + 1) names)))) (eq-eqb a (place_of i) at)

later : (n : ImportName) (names : List ImportName) (i a : ℕ) → a ≢ place_of i → name_numbered_from (n ∷ names) i a ≡ name_numbered_from names (i + 1) a
later n names i a off =
    ap (λ b. option_map (λ (p : ℕ × ImportName). p.1.name) (cond b (Some (i, n)) (find (λ (p : ℕ × ImportName). a == place_of p.0) (enumerate_from (i + 1) names)))) (ne_eqb a (place_of i) off)

none_from : (names : List ImportName) (i a : ℕ) → ((k : ℕ) → a ≢ place_of (i + k)) → name_numbered_from names i a ≡ None
none_from [] i a off = refl
none_from (n ∷ names) i a off =
    later n names i a (λ e. off 0 (omega (arith, e)))
    ∙ none_from names (i + 1) a (λ k e. off (suc k) (omega (arith, e)))

found_from : (names : List ImportName) (i k a : ℕ) → a ≡ place_of (i + k) → name_numbered_from names i a ≡ option_map (λ (n : ImportName). n.name) (slice_get names k)
found_from [] i k a at = refl
found_from (n ∷ names) i zero a at = first n names i a (omega (arith, at))
found_from (n ∷ names) i (suc k) a at =
    later n names i a (λ e. omega (arith, at, e)) ∙ found_from names (i + 1) k a (omega (arith, at))

pub name_at-none : (image : Image) (a : ℕ) → ((k : ℕ) → a ≢ place_of (1 + k)) → name_at image a ≡ None
unfolding name_at
name_at-none image a off = none_from image.names 1 a off

pub name_at-place : (image : Image) (k a : ℕ) → a ≡ place_of (1 + k) → name_at image a ≡ option_map (λ (n : ImportName). n.name) (slice_get image.names k)
unfolding name_at
name_at-place image k a at = found_from image.names 1 k a at

-- Flags set one by one.
use Rattle.std.proofs.Common.{◌≡◌, ℕ, Bool}
use Rattle.memory_map.specs.State.{Flags}
use Rattle.x86_semantics.specs.FlagRules.{is_set, ruled}
use Rattle.x86_semantics.specs.declared.flag_rule.FlagRule.TheVariants.{Status}
use Rattle.bit_words.specs.declared.width.Width.TheVariants.{B8}
use Rattle.statement_lang.specs.Run.{set_to}

-- the status flags of a byte in AH, set one by one
abbrev pub one_by_one : Bool → Bool → Bool → Bool → Bool → Flags → Flags
one_by_one c p a z s f =
    set_to (record { 0 = 16 }) s (set_to (record { 0 = 8 }) z (set_to (record { 0 = 4 }) a (set_to (record { 0 = 2 }) p (record f { carry = c }))))

same-flags : (f : Flags) (c c' p p' a a' z z' s s' : Bool) → c ≡ c' → p ≡ p' → a ≡ a' → z ≡ z' → s ≡ s' → one_by_one c p a z s f ≡ one_by_one c' p' a' z' s' f
same-flags f c c' p p' a a' z z' s s' e1 e2 e3 e4 e5 = cc

pub status-by-bits : (f : Flags) (n : ℕ) (c p a z s : Bool) → c ≡ is_set n 0 → p ≡ is_set n 2 → a ≡ is_set n 4 → z ≡ is_set n 6 → s ≡ is_set n 7
    → one_by_one c p a z s f ≡ ruled Status B8 n 0 0 f
unfolding ruled
status-by-bits f n c p a z s e1 e2 e3 e4 e5 = same-flags f c _ p _ a _ z _ s _ e1 e2 e3 e4 e5

-- Expansions with the same parts.
use Rattle.std.proofs.Common.{◌≡◌, ◌∙◌, ℕ, List, ap}
use Rattle.flow_log.specs.Analysis.{Expansion}

abbrev made : {S C W : Type 0} → List (ℕ × S) → List C → List W → Expansion S C W
made n c w = record { next = n; causes = c; writes = w }

pub expansion-of : {S C W : Type 0} (n m : List (ℕ × S)) (c e : List C) (w v : List W) → n ≡ m → c ≡ e → w ≡ v
    → (let x : Expansion S C W = record { next = n; causes = c; writes = w } in x) ≡ record { next = m; causes = e; writes = v }
expansion-of n m c e w v p q r = ap (λ x. made x c w) p ∙ (ap (λ x. made m x w) q ∙ ap (λ x. made m e x) r)

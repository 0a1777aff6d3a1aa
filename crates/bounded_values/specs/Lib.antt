-- definitions
pub mod Stands
pub mod Rules
pub mod Order
-- proofs of the laws: an impl's law can cite what stands in `specs/` alone
pub mod RoundingLaws
pub mod NumberLaws
pub mod RuleLaws
pub mod BoundedLaws

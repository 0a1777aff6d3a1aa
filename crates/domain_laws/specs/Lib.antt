-- definitions
pub mod Reached
pub mod Laws
pub mod Made
pub mod Rules
pub mod Flat
-- proofs of the laws: an impl's law can cite what stands in `specs/` alone
pub mod ResultLaws
pub mod RuleLaws
pub mod SharedLaws
pub mod FlatLaws

-- definitions
pub mod Forms
pub mod Spans
pub mod Stands
pub mod Order
pub mod Divisors
pub mod Rules
-- proofs of the laws: an impl's law can cite what stands in `specs/` alone
pub mod SpanLaws
pub mod MemberLaws
pub mod OrderLaws
pub mod RankLaws
pub mod DivisorLaws
pub mod StepLaws
pub mod RuleLaws
pub mod NameLaws
pub mod IntervalLaws

pub mod FlagLaws
pub mod FlagSets
pub mod Laws
pub mod Signed
pub mod SignedLaws
pub mod Words

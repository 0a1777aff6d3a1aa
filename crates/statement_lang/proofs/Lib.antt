pub mod Blocks
pub mod Counting
pub mod FlagFacts
pub mod Indexing

pub mod Fetching
pub mod Posting
pub mod Expanding
pub mod Marking
pub mod Spelling
pub mod StepSound
pub mod Telling
pub mod Grouping
pub mod Indexing
pub mod Following
pub mod Taking
mod EdgeSets

pub mod Lists
pub mod Sections
pub mod Loads
pub mod Lookups
pub mod Walks
pub mod Kept
pub mod Files
pub mod Known

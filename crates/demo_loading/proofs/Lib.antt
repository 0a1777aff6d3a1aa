mod Words
mod Fields
mod Ranges
pub mod Images
pub mod Stubs

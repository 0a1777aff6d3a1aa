pub mod Lists
pub mod Tables
pub mod Sound
pub mod Entries
pub mod Gathered
pub mod Top
pub mod Order

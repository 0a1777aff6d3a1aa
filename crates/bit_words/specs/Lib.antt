pub mod Flags
pub mod Operators
pub mod Width

pub mod Keys
pub mod Document
pub mod Rules
pub mod Faults
pub mod Stated
pub mod Stubs
pub mod Entries

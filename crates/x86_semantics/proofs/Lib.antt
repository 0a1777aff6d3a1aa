pub mod Faults
pub mod Storing
pub mod Spelled

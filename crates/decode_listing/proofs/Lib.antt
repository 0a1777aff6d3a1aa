pub mod Walking
pub mod Refusing
pub mod Once

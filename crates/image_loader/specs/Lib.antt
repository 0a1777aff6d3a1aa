pub mod Shown
pub mod Loaded
pub mod FaultNumber
pub mod Loading
pub mod Binding
pub mod Strong
pub mod Laws

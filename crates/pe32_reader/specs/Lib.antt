pub mod Imports
pub mod Walk
pub mod NamedPlaces
pub mod Image

pub mod Fronts
pub mod Readings
pub mod Shortest
pub mod Modrm
pub mod Escapes
pub mod Steps

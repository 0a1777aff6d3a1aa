pub mod Run
pub mod Cells
pub mod Flowing
pub mod Indexed
pub mod Filling

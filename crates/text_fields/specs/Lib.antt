pub mod Decimal
pub mod Fields
pub mod Hex
pub mod Line
pub mod Lines

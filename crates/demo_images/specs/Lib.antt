pub mod LittleEndian
pub mod Imported
pub mod Elf
pub mod Tables
pub mod Forms
pub mod Pe
pub mod Demo

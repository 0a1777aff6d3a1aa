pub mod Formats
pub mod Opcodes
pub mod Spelling
pub mod Decodes
pub mod Text

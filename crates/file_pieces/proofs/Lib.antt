pub mod Texts
pub mod Lookups
pub mod Layouts
pub mod NameLists

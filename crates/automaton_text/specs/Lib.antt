pub mod Laws
pub mod Orderly
pub mod Orders
pub mod Reading
pub mod Text

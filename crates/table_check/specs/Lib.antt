pub mod Text
pub mod Fields
pub mod Reading
pub mod TextLaws
pub mod Closed
pub mod Checking
pub mod Laws

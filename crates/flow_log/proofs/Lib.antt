pub mod Members
pub mod Growing
pub mod Closing
pub mod Induction
pub mod Ordering
pub mod Orders

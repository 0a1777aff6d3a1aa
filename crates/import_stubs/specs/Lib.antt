pub mod Stub
pub mod Laws

pub mod Analysis
pub mod Log
pub mod Run
pub mod Sound
pub mod Ordered
pub mod Orders

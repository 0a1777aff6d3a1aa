pub mod Walks
pub mod Found
pub mod Named
pub mod Filled
pub mod Images
pub mod Placed

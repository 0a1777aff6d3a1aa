pub mod Returning
pub mod Freedom
pub mod Entering
pub mod WorkedCalls

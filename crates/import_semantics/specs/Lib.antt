pub mod StubDoes
pub mod Laws
pub mod WorkedCalls

pub mod SoundBytes
pub mod SoundFrame
pub mod KeepWrites
pub mod SoundWrites
pub mod SoundPlaces
pub mod KeepCalls
pub mod SoundMemory
pub mod SoundCalls
pub mod SoundReplies
pub mod SoundStubs
pub mod Holding
pub mod Calling
mod Replying

pub mod StepBy
pub mod Machine
pub mod Faults
pub mod Laws
pub mod Started
pub mod StartLaws
pub mod Taken

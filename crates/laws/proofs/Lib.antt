pub mod Map
pub mod State
pub mod Valid
pub mod Access
pub mod Stages
pub mod Samples
pub mod Tick

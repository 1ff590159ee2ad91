pub mod Arguments
pub mod Hearing
pub mod Receiving
pub mod Station

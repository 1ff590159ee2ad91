pub mod Prints
pub mod Turns
pub mod Cuts

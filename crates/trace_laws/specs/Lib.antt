pub mod Batches
pub mod Carry
pub mod Wires

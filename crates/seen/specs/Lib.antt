pub mod Wires
pub mod Seen

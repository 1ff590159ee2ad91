pub mod Ticks
pub mod Call

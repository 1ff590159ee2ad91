pub mod Bits
pub mod Index
pub mod Fields

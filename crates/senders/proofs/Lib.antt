pub mod Lines
pub mod Receivers

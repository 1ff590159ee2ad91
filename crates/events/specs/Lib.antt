pub mod Noted
pub mod Gathered

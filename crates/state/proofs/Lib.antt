pub mod Widths
pub mod Listed
pub mod Strays

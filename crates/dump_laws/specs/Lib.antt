pub mod Holding
pub mod Claims
pub mod DumpSays

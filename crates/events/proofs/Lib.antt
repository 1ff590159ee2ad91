pub mod Notes
pub mod Turns
pub mod Noting
pub mod Unbroken

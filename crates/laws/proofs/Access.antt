pub mod Step1
pub mod Refusals
pub mod RegisterFile
pub mod Written
pub mod Enabling
pub mod Clears
pub mod Locks
pub mod BlockAnswers

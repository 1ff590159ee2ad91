pub mod List
pub mod Escalation
pub mod Threshold

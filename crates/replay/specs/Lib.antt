pub mod ReplayedBy
pub mod Rest

pub mod Class
pub mod Step

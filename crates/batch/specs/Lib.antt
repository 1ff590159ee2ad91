pub mod Running
pub mod BatchedBy

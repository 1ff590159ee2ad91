pub mod Progress
pub mod Install
pub mod Table
pub mod Plan
pub mod Sound

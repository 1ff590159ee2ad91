pub mod Received
pub mod Paced
pub mod Quiet
pub mod Linked
pub mod Rest
pub mod Occurred
pub mod Sampled

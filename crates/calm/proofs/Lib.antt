pub mod Standing
pub mod Walking
pub mod Resting
pub mod Rounding
pub mod Calling

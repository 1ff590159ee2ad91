pub mod Stores
pub mod Restages
pub mod Parts

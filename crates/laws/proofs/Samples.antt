pub mod Heard
pub mod Receivers
pub mod AtRest
pub mod Raises
pub mod Off

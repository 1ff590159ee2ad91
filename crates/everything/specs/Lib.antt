pub mod Everything
pub mod Calling

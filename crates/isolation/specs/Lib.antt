pub mod OwnAccess
pub mod Isolation
pub mod Owner

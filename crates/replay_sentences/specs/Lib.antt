pub mod Texts
pub mod Programs

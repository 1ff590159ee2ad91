pub mod Shown
pub mod Dump
pub mod Writer
pub mod Reader
pub mod Content

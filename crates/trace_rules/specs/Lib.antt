pub mod Edition
pub mod Record
pub mod Word
pub mod Batch
pub mod Writer

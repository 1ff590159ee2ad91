pub mod Sent
pub mod Seen
pub mod WholeSeen
pub mod SeenExamples

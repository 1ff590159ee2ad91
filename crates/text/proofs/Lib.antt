pub mod LineLaws
pub mod LineExamples

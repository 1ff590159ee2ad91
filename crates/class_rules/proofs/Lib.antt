pub mod ClassLaws
pub mod ClassExamples

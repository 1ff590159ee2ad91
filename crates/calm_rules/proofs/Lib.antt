pub mod CalmExamples

pub mod CallKinds
pub mod BoundaryExamples

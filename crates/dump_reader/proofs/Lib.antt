pub mod BodyLaws
pub mod FieldSteps
pub mod ReadLaws
pub mod StageLaws
pub mod StepLaws
pub mod WholeLaws

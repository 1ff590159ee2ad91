pub mod StageFile
pub mod StageLaws
pub mod StageContent
pub mod Inert

pub mod WholeRecords
pub mod CutLaws
pub mod PrintScenes
pub mod PrintExamples
pub mod RefutedTurns

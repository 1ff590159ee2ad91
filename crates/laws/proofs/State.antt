pub mod ColumnLaws
pub mod StateLaws
pub mod StateNumber
pub mod Above
pub mod AboveExamples

pub mod EntryKinds
pub mod StoreLaws
pub mod EntryLists
pub mod WriteOutcomes
pub mod Back
pub mod WholeWriter
pub mod WriteCallExamples
pub mod WriterPartExamples

pub mod CaseList
pub mod WholeCases

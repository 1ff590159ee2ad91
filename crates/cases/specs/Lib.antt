pub mod CaseTicks
pub mod CaseList

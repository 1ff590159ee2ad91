pub mod Lent
pub mod EntryParts

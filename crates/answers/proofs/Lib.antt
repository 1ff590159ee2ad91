pub mod Meaning
pub mod WholeMeaning

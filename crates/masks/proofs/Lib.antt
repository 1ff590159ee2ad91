pub mod Firsts
pub mod Held
pub mod Live
pub mod Made
pub mod MaskFolds
pub mod Only

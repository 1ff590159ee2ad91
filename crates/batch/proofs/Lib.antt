pub mod Running
pub mod BatchOutcomes
pub mod WordLines
pub mod WholeBatch

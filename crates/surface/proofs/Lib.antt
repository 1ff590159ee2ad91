pub mod TickParts
pub mod HearParts
pub mod BatchParts
pub mod CalmParts
pub mod WriteParts

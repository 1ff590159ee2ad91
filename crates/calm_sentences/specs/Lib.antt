pub mod CalmTicks
pub mod Changes
pub mod Calms

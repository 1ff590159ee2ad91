pub mod OnlyChanges
pub mod OnlyCalms
pub mod HoldsChanges
pub mod HoldsCalms
pub mod CalmScenes
pub mod RefutedCalms

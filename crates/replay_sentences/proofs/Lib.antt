pub mod HoldsPrograms
pub mod OnlyPrograms
pub mod RefutedPrograms

pub mod HoldsEverything
pub mod OnlyEverything
pub mod Said

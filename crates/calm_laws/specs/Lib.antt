pub mod Stand
pub mod Rank
pub mod Steady
pub mod Four
pub mod Settled
pub mod TwoCalls
pub mod Tells

pub mod TimeoutRoom
pub mod StillClasses

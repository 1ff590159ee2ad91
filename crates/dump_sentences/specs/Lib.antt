pub mod DumpBytes
pub mod Contents
pub mod Dumpers

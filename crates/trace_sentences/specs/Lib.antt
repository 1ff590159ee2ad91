pub mod Words
pub mod RecordBits
pub mod BatchTicks
pub mod Replays
pub mod FirstBytes
pub mod Writers
pub mod Library

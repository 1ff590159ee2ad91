pub mod PickLaws
pub mod KindLaws
pub mod LawfulDump
pub mod GoodDump
pub mod DumpBits
pub mod ReaderLaws
pub mod ShownLaws
pub mod Examples

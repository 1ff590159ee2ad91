pub mod ValidLaws
pub mod StageFits
pub mod PingFits
pub mod KeepsAccess
pub mod KeepsClass
pub mod KeepsValid
pub mod Refusal7

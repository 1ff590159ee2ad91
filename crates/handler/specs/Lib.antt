pub mod Classes
pub mod PairWords
pub mod Account
pub mod Answered
pub mod Finished
pub mod QuietTick
pub mod MovingTick
pub mod RestTick

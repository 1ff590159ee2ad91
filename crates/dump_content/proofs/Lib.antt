pub mod Places
pub mod Filling
pub mod ContentLaws
pub mod ReadLaws

pub mod Ran
pub mod Stands
pub mod Boots
pub mod FromBoot

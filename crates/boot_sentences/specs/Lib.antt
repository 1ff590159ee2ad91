pub mod Classification
pub mod Order
pub mod Turns
pub mod Course
pub mod Stands
pub mod Boots

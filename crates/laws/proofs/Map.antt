pub mod Cases
pub mod RowLaws
pub mod MapLaws
pub mod Named

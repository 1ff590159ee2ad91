pub mod BitLaws
pub mod FirstLaws
pub mod TruthTables
pub mod IndexLaws
pub mod FieldLaws
pub mod PackLaws
pub mod ByteLaws
pub mod WordLaws

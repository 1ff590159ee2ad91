pub mod RoundBy
pub mod Walk
pub mod CalmedBy

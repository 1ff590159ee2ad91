pub mod CallParts

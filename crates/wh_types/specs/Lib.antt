pub mod Ty
pub mod Erase
pub mod Limits
pub mod Outcome
pub mod formers

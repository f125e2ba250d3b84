pub mod Weights
pub mod Refuted
pub mod Below

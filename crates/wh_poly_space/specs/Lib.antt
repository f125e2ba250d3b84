pub mod Space
pub mod Spots
pub mod Coefficients

pub mod Oriented
pub mod OrderLines
pub mod OrderWalks

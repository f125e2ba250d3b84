pub mod Polynomials
pub mod Arithmetic
pub mod Limits
pub mod Excesses
pub mod Erase
pub mod Merges
pub mod Rearranged
pub mod Added

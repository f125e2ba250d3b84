pub mod Flat
pub mod Worth
pub mod Dominance

pub mod Least
pub mod Ways
pub mod Counts
pub mod Plain
pub mod Entries
pub mod LineGoals

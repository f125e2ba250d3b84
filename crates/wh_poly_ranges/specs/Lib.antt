pub mod Excluded
pub mod Bounds
pub mod Out

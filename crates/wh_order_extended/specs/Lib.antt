pub mod Kinds
pub mod Long
pub mod ExtendedSides
pub mod Filtered
pub mod Many

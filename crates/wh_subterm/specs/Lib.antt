pub mod ProperParts
pub mod Projections
pub mod SubtermRows
pub mod Relations

pub mod PartLemmas
pub mod ChoiceLemmas
pub mod ProjectionLemmas
pub mod CheckedRows
pub mod PartsDecided
pub mod Projections

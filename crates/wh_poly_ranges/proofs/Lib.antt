pub mod Lists
pub mod OutLemmas
pub mod Kept
pub mod Whole
pub mod Spans

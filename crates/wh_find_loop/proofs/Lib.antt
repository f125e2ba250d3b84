pub mod SpaceLemmas
pub mod TryLemmas
pub mod SearchLemmas

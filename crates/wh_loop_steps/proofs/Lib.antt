pub mod CandidateLemmas
pub mod ReductLemmas

pub mod CandidateLemmas
pub mod RetainLemmas
pub mod RuleLemmas

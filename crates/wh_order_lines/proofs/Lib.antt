pub mod Matched
pub mod SpineLemmas
pub mod FitLemmas
pub mod OrderLineLemmas
pub mod WalkLemmas

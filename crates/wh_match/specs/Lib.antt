pub mod Matching
pub mod MatchSearch

pub mod MatchLaws
pub mod MatchLemmas
pub mod PatternLemmas
pub mod SeatLemmas
pub mod RangeLemmas

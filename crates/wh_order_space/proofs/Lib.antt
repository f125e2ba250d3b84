pub mod OrderBits
pub mod FirstLemmas
pub mod SideLemmas
pub mod OrderLemmas
pub mod CallLemmas
pub mod SpotLemmas
pub mod NothingLemmas

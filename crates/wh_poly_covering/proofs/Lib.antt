pub mod SideLemmas
pub mod LineLemmas
pub mod Walks
pub mod CoverWalk
pub mod Polynomials
pub mod Coverings

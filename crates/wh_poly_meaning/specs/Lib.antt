pub mod Functionals
pub mod Valuations
pub mod Meaning
pub mod TermValues
pub mod Calls
pub mod PairCovers

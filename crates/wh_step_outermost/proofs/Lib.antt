pub mod OrderLaws
pub mod RootSearch
pub mod FirstRedexes
pub mod LeftLaws
pub mod StrandLaws
pub mod StrandSteps
pub mod FirstSteps
pub mod Chains

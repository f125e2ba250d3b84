pub mod Inferences
pub mod Filters
pub mod InferenceText
pub mod InferenceLimits
pub mod FilterText
pub mod Said

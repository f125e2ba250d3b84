pub mod InferenceView
pub mod OrderingFaults
pub mod Found

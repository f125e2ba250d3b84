pub mod InferenceSound
pub mod InferenceRuns
pub mod InferenceWhole
pub mod InferenceCode
pub mod FilterSound
pub mod FilterWhole
pub mod PrintCode

pub mod InferenceMachine
pub mod InferencesRead
pub mod InferenceViews
pub mod FilterMachine
pub mod FiltersRead
pub mod FilterViews
pub mod SignedParts

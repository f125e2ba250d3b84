pub mod ReadAndTyped
pub mod ReadKinds

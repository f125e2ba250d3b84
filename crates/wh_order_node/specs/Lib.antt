pub mod Filterings
pub mod FilteringView
pub mod Ordering

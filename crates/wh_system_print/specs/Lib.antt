pub mod SystemText
pub mod Sorted
pub mod PairText
pub mod NameViews
pub mod Fronts
pub mod Named
pub mod Sound
pub mod Cutting

pub mod Saturated
pub mod WeightLaws
pub mod GrowthValues
pub mod Growth

pub mod Lexicographic
pub mod Reaching
pub mod Measures
pub mod NodeMeasures

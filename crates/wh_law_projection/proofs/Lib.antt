pub mod LengthLaws
pub mod ProjectedLaws

pub mod Values
pub mod Gates
pub mod State
pub mod Marks
pub mod Laws

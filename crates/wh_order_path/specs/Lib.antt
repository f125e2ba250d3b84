pub mod SameTrees
pub mod Heads
pub mod Order
pub mod Verdict
pub mod OrderRoot
pub mod Lines

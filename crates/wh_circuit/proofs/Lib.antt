pub mod Solving
pub mod Gating
pub mod Carrying
pub mod Folding
pub mod Growing
pub mod Comparing

pub mod TreeSides
pub mod Precedences
pub mod Claims
pub mod BadNumber
pub mod Sifted
pub mod Kept

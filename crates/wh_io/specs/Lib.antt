pub mod Outside
pub mod Pieces
pub mod Reading
pub mod Writing
pub mod Memory

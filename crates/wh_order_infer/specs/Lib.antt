pub mod Bests
pub mod Lines

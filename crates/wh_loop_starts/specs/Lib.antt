pub mod Starts
pub mod Space
pub mod Found
pub mod Meets
pub mod Lines

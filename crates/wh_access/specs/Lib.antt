pub mod Readings
pub mod Passing
pub mod Demands
pub mod Answered
pub mod Tables
pub mod Sources
pub mod Found
pub mod Samples

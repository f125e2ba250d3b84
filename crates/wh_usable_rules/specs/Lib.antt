pub mod Tables
pub mod Called
pub mod Taken
pub mod Least

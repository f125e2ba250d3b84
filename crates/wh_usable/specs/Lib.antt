pub mod Closed
pub mod Open
pub mod Tables

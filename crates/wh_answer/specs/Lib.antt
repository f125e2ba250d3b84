pub mod Groups
pub mod Texts
pub mod Stands
pub mod Words

pub mod Words
pub mod Asked
pub mod Options
pub mod Kept
pub mod Answers

pub mod Arriving
pub mod Searched
pub mod Versions
pub mod Answers
pub mod Walk

pub mod Tried
pub mod Answers
pub mod Encodings
pub mod Trials

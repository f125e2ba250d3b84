pub mod TermText
pub mod Ending

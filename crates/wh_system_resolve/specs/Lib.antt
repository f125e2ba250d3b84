pub mod InScope
pub mod Answers
pub mod Resolving
pub mod Form
pub mod Marks

pub mod Numbers
pub mod Spelled
pub mod Joined
pub mod PlainWords
pub mod SameAnswer

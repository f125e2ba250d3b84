pub mod Bits
pub mod Tried
pub mod Answers
pub mod Sizes
pub mod Literals
pub mod Numbers
pub mod Encodings

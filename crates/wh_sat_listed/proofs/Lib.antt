pub mod Closing
pub mod Reaching
pub mod Entries
pub mod Passing
pub mod Shortness

pub mod Fewer
pub mod Lists
pub mod Interpreted

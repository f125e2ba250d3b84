pub mod Plain
pub mod Parts
pub mod Lists
pub mod Products
pub mod Numbers
pub mod Ready
pub mod Answers

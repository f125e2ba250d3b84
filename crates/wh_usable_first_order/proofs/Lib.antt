pub mod TypeReads
pub mod Lists

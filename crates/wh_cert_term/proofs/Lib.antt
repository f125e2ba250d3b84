pub mod Appending
pub mod ReadLaws

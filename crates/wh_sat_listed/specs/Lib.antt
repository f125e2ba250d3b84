pub mod Leading
pub mod Listing

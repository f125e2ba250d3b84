pub mod Arrivals
pub mod Marks
pub mod Listing

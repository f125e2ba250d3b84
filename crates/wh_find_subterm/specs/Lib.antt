pub mod Rows
pub mod Sights
pub mod Cases
pub mod Clauses
pub mod Formula
pub mod Reading
pub mod Laws
pub mod Found

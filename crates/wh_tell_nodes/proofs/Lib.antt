pub mod Before
pub mod Filters

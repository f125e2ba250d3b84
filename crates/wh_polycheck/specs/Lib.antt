pub mod CoverFaults
pub mod Sides
pub mod Marks
pub mod SideResults
pub mod Readings
pub mod ReadingsView
pub mod Covering
pub mod Small

pub mod Sections
pub mod SectionsViews
pub mod PolyLines
pub mod PolyLinesViews
pub mod OrderLines
pub mod OrderLinesViews

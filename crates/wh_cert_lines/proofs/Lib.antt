pub mod SectionsLaws
pub mod SectionsCode
pub mod PolyLinesSound
pub mod PolyLinesCode
pub mod OrderLinesSound
pub mod OrderLinesComplete
pub mod OrderLinesEnds
pub mod OrderLinesCode

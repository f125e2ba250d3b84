pub mod PrintedLists
pub mod PrintPolyCode
pub mod PrintCode
pub mod PrintLinesCode
pub mod PrintOrderCode

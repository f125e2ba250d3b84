pub mod TaskData
pub mod TaskView
pub mod ReductionPair
pub mod FirstFault

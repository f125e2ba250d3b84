pub mod Numbers
pub mod Lines
pub mod TaskLemmas
pub mod LinesShow

pub mod SequenceLaws
pub mod NumberLaws

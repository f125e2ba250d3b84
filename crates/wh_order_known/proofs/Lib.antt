pub mod PlainLemmas
pub mod EntryLemmas

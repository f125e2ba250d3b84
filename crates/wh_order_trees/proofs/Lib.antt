pub mod TreeLemmas
pub mod PartLemmas
pub mod SameLemmas
pub mod KindLemmas

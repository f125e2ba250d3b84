pub mod BuildLemmas
pub mod CallLemmas
pub mod ExpandLemmas
pub mod KindLemmas
pub mod MetaLemmas
pub mod RaiseLemmas
pub mod SideLemmas

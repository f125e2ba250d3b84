pub mod SpineLemmas
pub mod CallLemmas

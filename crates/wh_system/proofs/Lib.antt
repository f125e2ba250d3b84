pub mod NoNeed
pub mod TypedDecided
pub mod MadeDecided
mod CanonicalRows

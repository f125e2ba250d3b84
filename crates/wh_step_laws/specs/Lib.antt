pub mod Ends
pub mod DirectSubterms
pub mod Ranks
pub mod RootRelations
pub mod Spines
pub mod Neutral
pub mod Computable
pub mod Branching

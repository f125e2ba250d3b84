pub mod ListedHeads
pub mod LeastBounds
pub mod TermValues
pub mod PairWorths
pub mod CallNumbers

pub mod Room
pub mod Growth
pub mod PairSides
pub mod RuleSides

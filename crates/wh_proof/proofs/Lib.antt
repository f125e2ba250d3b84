pub mod ChoiceLemmas
pub mod InterpretationLemmas
pub mod FilterLemmas
pub mod SomeSets
pub mod WrittenLemmas
pub mod BlockLemmas
pub mod OneNode
pub mod LeftSets

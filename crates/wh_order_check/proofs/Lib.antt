pub mod TypedCalls
mod GoodLines
mod NarrowAnswers
mod ReadAt
mod LetterLemmas
mod PlaceLemmas
mod NarrowTypes
mod ProperFilters
mod OrderingWalk
pub mod Orderings
pub mod OneOrdering

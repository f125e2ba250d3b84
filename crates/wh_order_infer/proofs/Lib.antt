pub mod InferenceLemmas
pub mod LeastLemmas
pub mod TaskLemmas
pub mod WayLemmas
pub mod BestLemmas
pub mod WayGoals
pub mod BuildLemmas
pub mod StableLemmas

pub mod FlatCalls
pub mod BoundLaws
pub mod Numbers
pub mod SideBounds
pub mod StepBounds
pub mod CallBounds
pub mod ListedCovers
pub mod UsableCovers

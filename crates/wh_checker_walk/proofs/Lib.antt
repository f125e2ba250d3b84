pub mod Passing
pub mod LeftItems
pub mod StepLists
pub mod NodesOn
pub mod StepsOn
pub mod PutsOn
pub mod NextItems
pub mod Places

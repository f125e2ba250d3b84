pub mod Learning
pub mod Solving
pub mod State
pub mod Answers
pub mod Outcomes

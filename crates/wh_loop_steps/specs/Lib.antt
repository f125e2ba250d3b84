pub mod Tables
pub mod StepLists
pub mod Reducts

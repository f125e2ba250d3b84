pub mod Words
pub mod Causes
pub mod Proving
pub mod Generating
pub mod Reducing
pub mod Refuting
pub mod Complete
pub mod Run

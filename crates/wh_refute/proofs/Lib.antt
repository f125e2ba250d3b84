pub mod Members
pub mod Marking
pub mod Scanning
pub mod Following
pub mod RefuteLaws

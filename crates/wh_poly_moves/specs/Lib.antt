pub mod Found
pub mod Flows
pub mod Paths

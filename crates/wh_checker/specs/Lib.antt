pub mod Faults
pub mod Named
pub mod Walk
pub mod Accepted

pub mod Claim
pub mod Unused
pub mod Valid
pub mod Meaning
pub mod Faults
pub mod Entry

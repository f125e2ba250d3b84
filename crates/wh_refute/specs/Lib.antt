pub mod Refuting
pub mod RefuteFaults
pub mod Laws
pub mod Told

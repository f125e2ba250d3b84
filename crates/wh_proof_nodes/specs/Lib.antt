pub mod Many
pub mod MapSystem
pub mod IdentitySystem
pub mod MapOrder

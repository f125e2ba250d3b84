pub mod Demands
pub mod Claims
pub mod Views
pub mod Plans
pub mod Orders
pub mod OrderDemands
pub mod Planned

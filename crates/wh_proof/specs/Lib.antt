pub mod Nodes
pub mod Proves
pub mod Looked
pub mod Small
pub mod Valid
pub mod GoesOn

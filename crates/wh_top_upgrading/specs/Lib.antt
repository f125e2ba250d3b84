pub mod Output
pub mod Upgrading

pub mod Rooms
pub mod Assigning
pub mod Looking
pub mod Watching
pub mod Guarding
pub mod Visiting
pub mod Settling

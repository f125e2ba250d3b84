pub mod Space
pub mod Bits
pub mod Circuited
pub mod Spotted

pub mod Leftmost
pub mod Reducing
pub mod Redexes
pub mod Strands
pub mod Taking

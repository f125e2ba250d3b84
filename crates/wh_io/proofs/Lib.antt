pub mod Fronts
pub mod NamedFiles

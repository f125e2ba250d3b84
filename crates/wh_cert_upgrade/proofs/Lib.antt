mod Copies
mod SameParts
pub mod Texts

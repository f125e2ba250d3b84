pub mod Trees
pub mod TreeParts

pub mod TreeLaws
pub mod OneNumber
pub mod TableLaws
pub mod AddLaws
pub mod PartsThere
pub mod TermBuilt
pub mod PartsJoined

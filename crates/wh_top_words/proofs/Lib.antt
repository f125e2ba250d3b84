pub mod Among
pub mod Saying
pub mod Following
pub mod Keeping
pub mod AllWords
pub mod Knowing
pub mod Asking
pub mod OneRequest

pub mod Outcomes
pub mod Unread
pub mod Texts
pub mod Streamed

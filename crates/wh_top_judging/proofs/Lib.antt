pub mod Standing
pub mod Streaming

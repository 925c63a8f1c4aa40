pub mod Outputs
pub mod Watched
pub mod Made
pub mod Answers
pub mod Run
pub mod Streams
pub mod RunLaws

pub mod RestLaws
pub mod ReplayLaws
pub mod LineLaws
pub mod TakeLaws
pub mod CountLaws
pub mod TakenLaws
pub mod EndedLines

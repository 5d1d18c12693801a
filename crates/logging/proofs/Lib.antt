pub mod Answers
pub mod Recorded

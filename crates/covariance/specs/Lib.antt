pub mod Noise
pub mod Answers

pub mod Gradients
pub mod Answers

pub mod Knots
pub mod Systematic
pub mod Model
pub mod Answers

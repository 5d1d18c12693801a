pub mod Refusals
pub mod Answers
pub mod Cleared
pub mod Call
pub mod Demand1
pub mod Steps
pub mod Examples

pub mod Memory
pub mod Pass
pub mod Steps
pub mod Examples

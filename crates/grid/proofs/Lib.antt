pub mod Steps
pub mod Counts
pub mod Places
pub mod Order
pub mod Memory
pub mod Examples

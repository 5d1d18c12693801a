pub mod Reasons
pub mod Examples

pub mod Constants
pub mod Refusals
pub mod Bytes
pub mod Edges
pub mod Loading

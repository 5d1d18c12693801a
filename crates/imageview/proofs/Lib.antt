pub mod Pairs
pub mod Apart
pub mod Nearest

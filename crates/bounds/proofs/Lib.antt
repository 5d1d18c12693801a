-- The laws.
pub mod Answers
pub mod Nearest
-- What they rest on, from the windows to sigma.
pub mod Constants
pub mod Outputs
pub mod Blocks
pub mod Variances
pub mod Sigmas

pub mod Places
pub mod Refusals
pub mod Laws
pub mod Examples

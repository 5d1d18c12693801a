-- Laws on refusals and on what a call changes.
pub mod Refusals
pub mod Laws
pub mod Answering
pub mod Examples

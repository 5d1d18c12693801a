pub mod Inputs
pub mod Remarks

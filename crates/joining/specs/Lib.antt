-- The noise of a pass, from its bands; then what the code's needs use.
pub mod Numbers
pub mod Joining
pub mod Windows
pub mod Examples

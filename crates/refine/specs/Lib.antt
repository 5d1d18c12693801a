pub mod Covariance
pub mod Numbers

-- Laws on sums of products.
pub mod Sums
pub mod Nans
pub mod Laws
pub mod Examples

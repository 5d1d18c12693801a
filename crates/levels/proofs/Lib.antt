pub mod Constants
pub mod Clears
pub mod Folds
pub mod Contrasts
pub mod Wholes
pub mod Sums
pub mod Ends
pub mod Means

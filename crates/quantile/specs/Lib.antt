-- Rising order, and the quiet level.
pub mod Tally
pub mod Rising
pub mod Quantile
pub mod Examples

pub mod Layouts
pub mod Putting
pub mod Judging
pub mod Readings
pub mod Writing
pub mod Demand1
pub mod RoundTrip
pub mod Sigma

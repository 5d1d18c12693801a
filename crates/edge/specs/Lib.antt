pub mod Edge
pub mod Demand1

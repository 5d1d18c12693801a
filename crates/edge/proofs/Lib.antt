pub mod Tiles
pub mod Demand1

pub mod Window
pub mod Surface
pub mod Mirrors
pub mod Squares
pub mod Demand3

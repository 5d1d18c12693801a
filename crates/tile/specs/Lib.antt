pub mod Refusal
pub mod Tile
pub mod Width
pub mod Examples

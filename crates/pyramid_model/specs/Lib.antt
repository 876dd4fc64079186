pub mod Shape
pub mod Value
pub mod ValueLaws
pub mod Tile
pub mod TileLaws
pub mod Leaves
pub mod Laws

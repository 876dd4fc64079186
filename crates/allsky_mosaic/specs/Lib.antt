pub mod Mosaic
pub mod Tiles
pub mod Patch
pub mod Cells

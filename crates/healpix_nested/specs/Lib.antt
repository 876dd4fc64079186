pub mod Cells
pub mod CellLaws
pub mod Laws
pub mod Place
pub mod PlaceLaws

pub mod Rows
pub mod Tiles
pub mod Lines
pub mod TwoRows
pub mod Halves
pub mod Kept
pub mod RowAbove
pub mod HalvedRow

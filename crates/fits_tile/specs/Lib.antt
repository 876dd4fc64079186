pub mod Faults
pub mod TileFile
pub mod Reading
pub mod Refused
pub mod Laws

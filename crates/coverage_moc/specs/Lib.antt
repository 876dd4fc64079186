pub mod Cover
pub mod CoverFile
pub mod Rows
pub mod Laws
pub mod Texts
pub mod WrittenRows

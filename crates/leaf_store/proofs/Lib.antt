pub mod Changed
pub mod Chunked
pub mod Cuts
pub mod LookUps
pub mod Pages
pub mod Roots
pub mod Shown
pub mod Slots

pub mod Chunks
pub mod Entries
pub mod Places
pub mod Store
pub mod Tree

pub mod Shut
pub mod Wal
pub mod Laws

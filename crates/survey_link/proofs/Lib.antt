pub mod FourParts
pub mod Held
pub mod Prefixes
pub mod Writes

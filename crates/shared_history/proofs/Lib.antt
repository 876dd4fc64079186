pub mod Beginnings
pub mod Appending
pub mod Replacing
pub mod Places
pub mod Keeping
pub mod Owning

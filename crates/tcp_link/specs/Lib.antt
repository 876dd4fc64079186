pub mod Tcp
pub mod Time

pub mod Children
pub mod Levels
pub mod Shares
pub mod Stood
pub mod Touched

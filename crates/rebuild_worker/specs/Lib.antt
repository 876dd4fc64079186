pub mod Level
pub mod LevelLaws
pub mod Changed
pub mod Shown
pub mod Workers

pub mod Generation
pub mod Files
pub mod Steps
pub mod Served
pub mod Kept
pub mod Placed
pub mod Changes
pub mod Presence

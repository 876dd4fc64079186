pub mod Depth
pub mod Combined
pub mod Kept
pub mod CombinedLaws
pub mod Permit

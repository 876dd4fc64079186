pub mod Records
pub mod Merging
pub mod Probe
pub mod Status
pub mod Reading

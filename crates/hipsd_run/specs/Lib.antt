pub mod Command
pub mod Probe
pub mod Runs

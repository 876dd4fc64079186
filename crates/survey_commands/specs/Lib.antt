pub mod Survey
pub mod Session
pub mod Make
pub mod Serve
pub mod Past
pub mod Mirror

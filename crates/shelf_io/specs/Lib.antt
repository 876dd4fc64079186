pub mod Refusals
pub mod Opening
pub mod Survey
pub mod Texts
pub mod Listed
pub mod Writing
pub mod Comparing

pub mod Real
pub mod Whole
pub mod Laws
pub mod Faults
pub mod Scan

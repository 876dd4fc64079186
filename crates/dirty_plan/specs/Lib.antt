pub mod Dirty
pub mod Climb
pub mod Laws

pub mod Link
pub mod Shelf
pub mod Door
pub mod Faults
pub mod Inbox

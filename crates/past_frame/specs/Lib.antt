pub mod Line
pub mod Record
pub mod Reading
pub mod Laws

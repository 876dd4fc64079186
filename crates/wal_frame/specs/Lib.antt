pub mod Record
pub mod Reading
pub mod Survey
pub mod Payload
pub mod Told
pub mod Refusal
pub mod Header
pub mod Laws

pub mod Requests
pub mod Reply
pub mod Head
pub mod Reading
pub mod Laws
pub mod Exchange
pub mod Peer

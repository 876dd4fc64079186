pub mod Mirror
pub mod Stages
pub mod Peer
pub mod Laws
pub mod Texts
pub mod Order

mod Lines
mod Heads
mod Replies
mod OneReply
pub mod Exchanges

pub mod Memory
pub mod Files

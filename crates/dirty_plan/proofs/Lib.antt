pub mod Ascending
pub mod Select
pub mod Climbing
pub mod LawLemmas
pub mod Orders

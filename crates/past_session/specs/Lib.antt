pub mod Records
pub mod Answers
pub mod Costs
pub mod Run
pub mod Ending
pub mod Session
pub mod Steps
pub mod Order

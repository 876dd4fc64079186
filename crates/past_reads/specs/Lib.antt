pub mod Costs
pub mod Texts
pub mod Past
pub mod Answers
pub mod AnswerLaws

pub mod CommandLemmas
pub mod DoorsLemmas
pub mod ProbeLemmas
pub mod RunsLemmas

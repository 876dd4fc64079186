pub mod CountLemmas
pub mod LeavesLemmas
pub mod MergingLemmas
pub mod PieceLemmas
pub mod ReadLemmas

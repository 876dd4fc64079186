pub mod InRange
pub mod PairLemmas

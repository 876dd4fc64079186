pub mod MakeLemmas
pub mod ShelfLemmas
pub mod ServeLemmas
pub mod PastLemmas

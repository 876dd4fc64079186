pub mod PathLemmas
pub mod AscendLemmas
pub mod ListedLemmas
pub mod LeafLemmas
pub mod LoadLemmas
pub mod StrayLemmas
pub mod WriteLemmas
pub mod CompareLemmas

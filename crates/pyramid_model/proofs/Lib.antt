pub mod Quads
pub mod FitLemmas
pub mod LeafLemmas
pub mod ValueLemmas
pub mod Examples

mod NumberLemmas
mod WriteLemmas
mod TileLemmas
mod PathLemmas

pub mod PlaceLemmas
pub mod PlacesLemmas
pub mod OneOwner
pub mod DoorsLemmas

pub mod PlaceLemmas
pub mod StateLemmas
pub mod BatchLemmas
pub mod FitsLemmas
pub mod RoomLemmas
pub mod LineLemmas
pub mod EntryLemmas
pub mod FaultyLemmas

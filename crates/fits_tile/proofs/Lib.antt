pub mod SizeLemmas
pub mod ReadingLemmas
pub mod ImageLemmas
pub mod NamedCards
pub mod ValuesRead
pub mod FitsLemmas
pub mod HeaderLemmas
pub mod RoundTrip

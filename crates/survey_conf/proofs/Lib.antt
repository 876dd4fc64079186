mod Written
mod RoundTripBytes
mod RoundTripLines
mod RoundTripEntries
mod RoundTripFaults
mod RoundTripNumbers
mod RoundTripKeys
mod RoundTripPairs
mod RoundTripDistinct
mod RoundTripFound
mod RoundTrip
pub mod LineLemmas
pub mod EntryLemmas
pub mod ScanLemmas
pub mod DepthLemmas
pub mod DistinctLemmas
pub mod ExtraLemmas
pub mod TrimLemmas
pub mod WellFormedLemmas
pub mod DescribedLemmas
pub mod RealLemmas

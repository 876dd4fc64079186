mod FieldSteps
mod DigitSteps
mod Values
mod Targets
mod FirstLine
mod HeadEnds
pub mod Fills
pub mod ReadingSteps
pub mod ReadLemmas
pub mod Taken
pub mod Nexts
pub mod Unique
mod Stands

mod Sums
mod SumsOfFour
mod Medians
mod Cases
mod Rows
mod Examples
pub mod FourNumbers
pub mod MedianCases

pub mod Histories
pub mod Book
pub mod Laws

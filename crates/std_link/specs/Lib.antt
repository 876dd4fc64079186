pub mod Stream
pub mod ShelfPath
pub mod Folder

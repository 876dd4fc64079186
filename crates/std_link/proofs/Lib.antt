mod Folders
mod Unchanged

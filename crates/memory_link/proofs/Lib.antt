mod Copied
mod Doors
mod Paths
mod Room

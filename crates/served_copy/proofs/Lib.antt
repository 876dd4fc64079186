mod Requests
mod Sessions
mod Copies
